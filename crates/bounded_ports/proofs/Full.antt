-- Places with bounded sinks that have failed.
use Rattle.std.proofs.Common.{◌≡◌, ◌<◌, ◌+◌, ℕ, zero, suc, List, [], ◌∷◌, length, map, get_or, Some, arith}
use Rattle.port_base.specs.OutPlace.{out_view}
use Rattle.port_base.specs.Views.{no_output}
use Rattle.port_base.specs.declared.out_place.OutPlaceOf.{OutPlaceOf}
use Rattle.port_base.specs.declared.out_place.OutPlaceOf.TheVariants as output
use Rattle.bounded_ports.specs.Bounded.{bounded_got, bounded_faults}
use Rattle.bounded_ports.specs.contracts.bounded_sink.BoundedSinkSink.TheImpl as sink
use Rattle.bounded_ports.specs.declared.bounded_sink.BoundedSink.{BoundedSink}
use denote.Param.{value_of}
use denote.RattleType.{RattleType}

full : (room : ℕ) (port : BoundedSink room) (got : List ℕ) → 0 < bounded_faults port → Some (bounded_got port) ≡ Some got → length got ≡ room
full room port got failed same =
    let whole = port.whole in
    let none = port.full failed in
    let is : bounded_got port ≡ got = cc in
    grind arith

pub place_full : (ROOM : RattleType) (places : List (OutPlaceOf (BoundedSink (value_of ROOM)))) (n : ℕ) (got : List ℕ)
    → 0 < (get_or (map (out_view (sink.ghosts ROOM)) places) n no_output).faults → (get_or (map (out_view (sink.ghosts ROOM)) places) n no_output).got ≡ Some got
    → length got ≡ value_of ROOM
place_full ROOM [] n got failed same = absurd (omega arith)
place_full ROOM (output.Empty ∷ places) zero got failed same = absurd (omega arith)
place_full ROOM (output.Retired sealed ∷ places) zero got failed same = absurd (omega arith)
place_full ROOM (output.Live port number ∷ places) zero got failed same = full (value_of ROOM) port got failed same
place_full ROOM (output.Dead sealed number ∷ places) zero got failed same = full (value_of ROOM) sealed.port got failed same
place_full ROOM (place ∷ places) (suc n) got failed same = place_full ROOM places n got failed same
