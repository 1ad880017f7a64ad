use Rattle.std.proofs.Common.{◌≡◌, false, ◌∙◌, refl, arith}
use Rattle.otn_base.specs.declared.kind.PortName.TheVariants as port
use Rattle.port_base.specs.Racks.{bays_view}
use Rattle.node_moments.specs.NodeView.{is_ready}
use Rattle.network_core.proofs.Growth.{grows_not, grows_twice, leads_twice, stays}
use Rattle.network_run.proofs.Served.{extended, unasked_none, unasked_twice}
use Rattle.network_run.proofs.serving.write_lines.Goals as goal

pub loop-b-init : goal.loop-b-init
loop-b-init g c =
    let first = bays_view g.P.Source g.K.Sink c.args.bays.now in
    record {
      stands = stays c.args.node.now first;
      turns = refl;
      past = refl;
      grows = grows_not first;
      unasked = unasked_none first;
      all = λ m none. absurd (omega arith);
    }

pub loop-b-preserved : goal.loop-b-preserved
loop-b-preserved g c =
    let e = c.write_line.ensures in
    let i = c.loop-b.invariant in
    let first = bays_view g.P.Source g.K.Sink c.args.bays.now in
    let was = bays_view g.P.Source g.K.Sink c.loop-b.bays in
    let is = bays_view g.P.Source g.K.Sink c.write_line.new.bays in
    record {
      stands = leads_twice c.args.node.now c.loop-b.node c.write_line.new.node first was is i.stands e.stands;
      turns = e.turns ∙ i.turns;
      past = e.past ∙ i.past;
      grows = grows_twice first was is i.grows e.grows;
      unasked = unasked_twice first was is i.unasked e.unasked;
      all = extended (λ m. is_ready c.write_line.new.node (port.LineOut m) ≡ false) c.loop-b.b
          (λ m less. e.kept (port.LineOut m) (i.all m less)) e.all;
    }
