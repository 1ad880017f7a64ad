use Rattle.std.proofs.Common.{rules, ◌≡◌, true, ◌∙◌}
use Rattle.port_base.specs.Racks.{bays_view}
use Rattle.node_moments.specs.NodeView.{is_ready, left_of}
use Rattle.node_moments.proofs.Later.{left_step}
use Rattle.network_core.proofs.Growth.{grows_twice, leads_twice, smaller}
use Rattle.live_node.proofs.Served.{stays_step}
use Rattle.live_node.proofs.serving.serve.Goals as goal

pub loop-port-smaller : goal.loop-port-smaller
loop-port-smaller g c =
    let e = c.step.ensures in
    let ready : is_ready c.loop-port.node c.args.port ≡ true = search rules in
    smaller (left_of c.step.new.self) (left_of c.loop-port.node) (left_step c.args.port c.loop-port.node c.step.new.self ready e.piece e.turns e.past)

pub loop-port-preserved : goal.loop-port-preserved
loop-port-preserved g c =
    let e = c.step.ensures in
    let first = bays_view g.P.Source g.K.Sink c.args.bays.now in
    let was = bays_view g.P.Source g.K.Sink c.loop-port.bays in
    let is = bays_view g.P.Source g.K.Sink c.step.new.bays in
    let ready : is_ready c.loop-port.node c.args.port ≡ true = search rules in
    record {
      stands = leads_twice c.args.node.now c.loop-port.node c.step.new.self first was is c.loop-port.invariant.stands e.stands;
      turns = e.turns ∙ c.loop-port.invariant.turns;
      past = e.past ∙ c.loop-port.invariant.past;
      grows = grows_twice first was is c.loop-port.invariant.grows e.grows;
      kept = stays_step c.args.node.now c.loop-port.node c.step.new.self c.args.port c.loop-port.invariant.kept ready e.piece e.turns e.past;
    }
