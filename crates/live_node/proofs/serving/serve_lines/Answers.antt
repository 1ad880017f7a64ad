use Rattle.std.proofs.Common.{◌≡◌, false, ◌∙◌, refl, arith}
use Rattle.otn_base.specs.declared.kind.PortName.TheVariants as port
use Rattle.port_base.specs.Racks.{bays_view}
use Rattle.node_moments.specs.NodeView.{is_ready}
use Rattle.network_core.proofs.Growth.{grows_not, grows_twice, leads_twice, stays}
use Rattle.live_node.proofs.Opening.{extended}
use Rattle.live_node.proofs.Served.{stays_none, stays_twice}
use Rattle.live_node.proofs.serving.serve_lines.Goals as goal

pub loop-b-init : goal.loop-b-init
loop-b-init g c = record {
  stands = stays c.args.node.now (bays_view g.P.Source g.K.Sink c.args.bays.now);
  turns = refl;
  past = refl;
  grows = grows_not (bays_view g.P.Source g.K.Sink c.args.bays.now);
  kept = stays_none c.args.node.now;
  node = λ none. absurd (omega arith);
  served = λ m none. absurd (omega arith);
}

pub loop-b-preserved : goal.loop-b-preserved
loop-b-preserved g c =
    let e = c.serve.ensures in
    let i = c.loop-b.invariant in
    let first = bays_view g.P.Source g.K.Sink c.args.bays.now in
    let was = bays_view g.P.Source g.K.Sink c.loop-b.bays in
    let is = bays_view g.P.Source g.K.Sink c.serve.new.bays in
    record {
      stands = leads_twice c.args.node.now c.loop-b.node c.serve.new.node first was is i.stands e.stands;
      turns = e.turns ∙ i.turns;
      past = e.past ∙ i.past;
      grows = grows_twice first was is i.grows e.grows;
      kept = stays_twice c.args.node.now c.loop-b.node c.serve.new.node i.kept e.kept;
      node = λ some. e.node;
      served = extended (λ m. is_ready c.serve.new.node (port.LineOut m) ≡ false) c.loop-b.b
          (λ m less. e.kept (port.LineOut m) (i.served m less)) e.served;
    }
