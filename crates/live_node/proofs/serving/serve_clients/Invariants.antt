use Rattle.std.proofs.Common.{◌≡◌, ◌<◌, ℕ, false}
use Rattle.otn_base.specs.declared.kind.PortName.TheVariants as port
use Rattle.port_base.specs.Racks.{bays_view}
use Rattle.node_core.specs.Growing.{OutputsGrow}
use Rattle.node_moments.specs.NodeView.{IsNode, is_ready}
use Rattle.network_core.specs.Turns.{LeadsLater}
use Rattle.live_node.specs.Served.{StaysServed}
use Rattle.live_node.proofs.serving.serve_clients.Given as goal

abbrev pub invariant-loop-n : goal.invariant-loop-n
invariant-loop-n g l = record {
  stands : LeadsLater l.fn.node (bays_view g.P.Source g.K.Sink l.fn.bays) l.node (bays_view g.P.Source g.K.Sink l.bays);
  turns : l.node.turns ≡ l.fn.node.turns;
  past : l.node.past ≡ l.fn.node.past;
  grows : OutputsGrow (bays_view g.P.Source g.K.Sink l.fn.bays) (bays_view g.P.Source g.K.Sink l.bays);
  kept : StaysServed l.fn.node l.node;
  node : 0 < l.n → IsNode l.node;
  served : (m : ℕ) → m < l.n → is_ready l.node (port.ClientOut m) ≡ false;
}
