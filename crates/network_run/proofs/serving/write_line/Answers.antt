use Rattle.std.proofs.Common.{◌≡◌, true, ◌∙◌, rules}
use Rattle.otn_base.specs.declared.kind.PortName.TheVariants as port
use Rattle.port_base.specs.Racks.{bays_view}
use Rattle.node_moments.specs.NodeView.{is_ready, left_of}
use Rattle.node_moments.proofs.Later.{left_step}
use Rattle.network_core.proofs.Growth.{grows_twice, leads_twice, smaller}
use Rattle.network_run.proofs.Served.{shut_step, unasked_step, unasked_twice}
use Rattle.network_run.proofs.serving.write_line.Goals as goal

pub loop-node-smaller : goal.loop-node-smaller
loop-node-smaller g c =
    let e = c.step.ensures in
    let ready : is_ready c.loop-node.node (port.LineOut c.args.b) ≡ true = search rules in
    smaller (left_of c.step.new.self) (left_of c.loop-node.node)
    (left_step (port.LineOut c.args.b) c.loop-node.node c.step.new.self ready e.piece e.turns e.past)

pub loop-node-preserved : goal.loop-node-preserved
loop-node-preserved g c =
    let e = c.step.ensures in
    let i = c.loop-node.invariant in
    let first = bays_view g.P.Source g.K.Sink c.args.bays.now in
    let was = bays_view g.P.Source g.K.Sink c.loop-node.bays in
    let is = bays_view g.P.Source g.K.Sink c.step.new.bays in
    let ready : is_ready c.loop-node.node (port.LineOut c.args.b) ≡ true = search rules in
    record {
      stands = leads_twice c.args.node.now c.loop-node.node c.step.new.self first was is i.stands e.stands;
      turns = e.turns ∙ i.turns;
      past = e.past ∙ i.past;
      grows = grows_twice first was is i.grows e.grows;
      unasked = unasked_twice first was is i.unasked (unasked_step c.args.b was is e.only);
      kept = shut_step c.args.node.now c.loop-node.node c.step.new.self (port.LineOut c.args.b) i.kept ready e.piece e.turns e.past;
    }
