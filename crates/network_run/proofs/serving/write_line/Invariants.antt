use Rattle.std.proofs.Common.{◌≡◌}
use Rattle.port_base.specs.Racks.{bays_view}
use Rattle.node_moments.specs.NodeView.{left_of}
use Rattle.node_core.specs.Growing.{OutputsGrow}
use Rattle.network_core.specs.Turns.{LeadsLater}
use Rattle.network_run.specs.Serving.{Unasked, StaysShut}
use Rattle.network_run.proofs.serving.write_line.Given as goal

abbrev pub invariant-loop-node : goal.invariant-loop-node
invariant-loop-node g l = record {
  stands : LeadsLater l.fn.node (bays_view g.P.Source g.K.Sink l.fn.bays) l.node (bays_view g.P.Source g.K.Sink l.bays);
  turns : l.node.turns ≡ l.fn.node.turns;
  past : l.node.past ≡ l.fn.node.past;
  grows : OutputsGrow (bays_view g.P.Source g.K.Sink l.fn.bays) (bays_view g.P.Source g.K.Sink l.bays);
  unasked : Unasked (bays_view g.P.Source g.K.Sink l.fn.bays) (bays_view g.P.Source g.K.Sink l.bays);
  kept : StaysShut l.fn.node l.node;
}

abbrev pub decreases-loop-node : goal.decreases-loop-node
decreases-loop-node g l = left_of l.node
