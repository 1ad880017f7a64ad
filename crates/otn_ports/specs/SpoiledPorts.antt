-- API: what is seen of a source that spoils bytes of another.
use Rattle.std.specs.Prelude.{ℕ, Bool, List, drop, Option}
use Rattle.std.specs.Option.{option_map}
use Rattle.otn_ports.specs.Spoiling.{spoiled}
use Rattle.otn_ports.specs.declared.spoiled_source.SpoiledSource.{SpoiledSource}

-- the bytes still to come: those of the inner source, where it tells them, with their spoiled places
abbrev pub spoiled_left : {S : Type 0} → (S → Option (List ℕ)) → SpoiledSource S → Option (List ℕ)
spoiled_left left source = option_map (spoiled (drop source.next source.spoil.items) source.at) (left source.inner)

-- whether the inner source has answered that it ended
abbrev pub spoiled_ended : {S : Type 0} → (S → Bool) → SpoiledSource S → Bool
spoiled_ended ended source = ended source.inner

-- the count of faults of the inner source
abbrev pub spoiled_faults : {S : Type 0} → (S → ℕ) → SpoiledSource S → ℕ
spoiled_faults faults source = faults source.inner
