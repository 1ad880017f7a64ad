-- API: what is seen of a source over bytes that are lent.
use Rattle.std.specs.Prelude.{ℕ, Bool, List, drop}
use Rattle.otn_c.specs.declared.slice_source.SliceSource.{SliceSource}

-- the bytes still to come
abbrev pub lent_left : SliceSource → List ℕ
lent_left source = drop source.at source.bytes.now

-- whether it has answered that it ended
abbrev pub lent_ended : SliceSource → Bool
lent_ended source = source.ended

-- how often it has failed: never
abbrev pub lent_faults : SliceSource → ℕ
lent_faults source = 0
