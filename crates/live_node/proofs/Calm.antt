-- No input of a live node has failed: its ports cannot.
use Rattle.std.proofs.Common.{◌≡◌, ℕ, zero, suc, List, [], ◌∷◌, get_or, map, refl}
use Rattle.port_base.specs.InPlace.{in_view}
use Rattle.port_base.specs.Racks.{line_ins, client_ins}
use Rattle.port_base.specs.Views.{no_input}
use Rattle.port_base.specs.declared.bays.Rack.{Rack}
use Rattle.port_base.specs.declared.in_place.InPlaceOf.{InPlaceOf}
use Rattle.port_base.specs.declared.in_place.InPlaceOf.TheVariants as input
use Rattle.filled_ports.specs.contracts.source.FilledSourceSource.TheImpl as source
use Rattle.filled_ports.specs.declared.sink.FilledSink.{FilledSink}
use Rattle.filled_ports.specs.declared.source.FilledSource.{FilledSource}
use Rattle.live_laws.specs.Live.{NeverFails}
use Rattle.live_node.specs.Places.{places}

of_place : (place : InPlaceOf FilledSource) → (in_view source.ghosts place).faults ≡ 0
of_place input.Empty = refl
of_place (input.Live port number) = refl
of_place (input.Dead sealed number) = refl

of_places : (l : List (InPlaceOf FilledSource)) (n : ℕ) → (get_or (map (in_view source.ghosts) l) n no_input).faults ≡ 0
of_places [] n = refl
of_places (place ∷ l) zero = of_place place
of_places (place ∷ l) (suc n) = of_places l n

pub calm : (rack : Rack FilledSource FilledSink) → NeverFails (places rack)
calm rack = record { line_in = of_places (line_ins rack); client_in = of_places (client_ins rack) }
