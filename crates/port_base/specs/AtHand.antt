-- API: what a place has at hand: bytes that its port read ahead of what it gave.
use Rattle.std.specs.Prelude.{ℕ, List, []}
use Rattle.port_base.specs.declared.source.Source.{Ghosts}
use Rattle.port_base.specs.declared.in_place.InPlaceOf.{InPlaceOf}
use Rattle.port_base.specs.declared.in_place.InPlaceOf.TheVariants as place

-- what the port of a live place has at hand; another place has nothing
abbrev pub place_at_hand : {P : Type 0} → Ghosts P → InPlaceOf P → List ℕ
place_at_hand source place.Empty = []
place_at_hand source (place.Live port n) = source.at_hand port
place_at_hand source (place.Dead sealed n) = []
