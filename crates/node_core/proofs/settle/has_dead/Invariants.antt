use Rattle.std.proofs.Common.{◌≡◌, ◌<◌, ℕ, false}
use Rattle.port_base.specs.Racks.{bays_view}
use Rattle.node_core.specs.Steps.Asking.{is_cut}
use Rattle.turn_pieces.specs.Ports.{port_at}
use Rattle.node_core.proofs.settle.has_dead.Given as goal

abbrev pub invariant-loop-i : goal.invariant-loop-i
invariant-loop-i g l = (k : ℕ) → k < l.i → is_cut l.pieces (bays_view g.P.Source g.K.Sink l.bays) (port_at k) ≡ false
