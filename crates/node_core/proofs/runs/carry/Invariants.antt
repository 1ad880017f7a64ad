use Rattle.std.proofs.Common.{◌≡◌, ◌+◌, ◌-◌}
use Rattle.port_base.specs.Bytes.{raised}
use Rattle.port_base.specs.Racks.{bays_view}
use Rattle.port_base.specs.Views.{BaysView}
use Rattle.plan_file.specs.declared.plan.Plan.{Plan}
use Rattle.node_moments.specs.NodeView.{left_of}
use Rattle.node_moments.specs.Stands.{InputBytes, StandsAt, Later}
use Rattle.node_core.proofs.runs.carry.Given as goal

abbrev pub invariant-loop-node : goal.invariant-loop-node
invariant-loop-node g l = record {
  stands : (plan : Plan) (first : BaysView) (read : InputBytes) → StandsAt plan first read l.fn.node (bays_view g.P.Source g.K.Sink l.fn.bays)
      → Later plan first read l.fn.node l.node (bays_view g.P.Source g.K.Sink l.bays);
  turns : l.node.turns ≡ l.fn.node.turns;
  asked : raised (g.C.Chooser.asked l.chooser) (left_of l.node) ≡ raised (g.C.Chooser.asked l.fn.chooser) (left_of l.fn.node);
}

abbrev pub decreases-loop-node : goal.decreases-loop-node
decreases-loop-node g l = left_of l.node + (l.node.turns - l.node.past)
