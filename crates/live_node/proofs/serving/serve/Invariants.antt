use Rattle.std.proofs.Common.{◌≡◌}
use Rattle.port_base.specs.Racks.{bays_view}
use Rattle.node_core.specs.Growing.{OutputsGrow}
use Rattle.node_moments.specs.NodeView.{left_of}
use Rattle.network_core.specs.Turns.{LeadsLater}
use Rattle.live_node.specs.Served.{StaysServed}
use Rattle.live_node.proofs.serving.serve.Given as goal

abbrev pub invariant-loop-port : goal.invariant-loop-port
invariant-loop-port g l = record {
  stands : LeadsLater l.fn.node (bays_view g.P.Source g.K.Sink l.fn.bays) l.node (bays_view g.P.Source g.K.Sink l.bays);
  turns : l.node.turns ≡ l.fn.node.turns;
  past : l.node.past ≡ l.fn.node.past;
  grows : OutputsGrow (bays_view g.P.Source g.K.Sink l.fn.bays) (bays_view g.P.Source g.K.Sink l.bays);
  kept : StaysServed l.fn.node l.node;
}

abbrev pub decreases-loop-port : goal.decreases-loop-port
decreases-loop-port g l = left_of l.node
