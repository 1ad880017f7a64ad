use Rattle.std.proofs.Common.{◌≡◌, ◌∙◌, arith}
use Rattle.port_base.specs.Racks.{bays_view}
use Rattle.node_moments.specs.NodeView.{left_of, ready_number}
use Rattle.node_moments.proofs.Later.{left_step, none_ready}
use Rattle.network_core.proofs.Growth.{grows_twice, grows_same, leads_twice, smaller}
use Rattle.network_core.proofs.turns.end_turn.Goals as goal

pub loop-node-smaller : goal.loop-node-smaller
loop-node-smaller g c =
    let e = c.step.ensures in
    smaller (left_of c.step.new.self) (left_of c.loop-node.node)
    (left_step c.nth_ready-port.result c.loop-node.node c.step.new.self c.nth_ready-port.ensures.ready e.piece e.turns e.past)

pub loop-node-preserved : goal.loop-node-preserved
loop-node-preserved g c =
    let e = c.step.ensures in
    let first = bays_view g.P.Source g.K.Sink c.args.bays.now in
    let was = bays_view g.P.Source g.K.Sink c.loop-node.bays in
    let is = bays_view g.P.Source g.K.Sink c.step.new.bays in
    record {
      stands = leads_twice c.args.node.now c.loop-node.node c.step.new.self first was is c.loop-node.invariant.stands e.stands;
      turns = e.turns ∙ c.loop-node.invariant.turns;
      past = e.past ∙ c.loop-node.invariant.past;
      grows = grows_twice first was is c.loop-node.invariant.grows e.grows;
    }

pub fence-requires-clause-none : goal.fence-requires-clause-none
fence-requires-clause-none g c =
    let none : ready_number c.loop-node.node ≡ 0 = grind arith in
    none_ready c.loop-node.node none

pub returns-clause-stands : goal.returns-clause-stands
returns-clause-stands g c =
    leads_twice c.args.node.now c.loop-node.node c.fence.new.self (bays_view g.P.Source g.K.Sink c.args.bays.now)
    (bays_view g.P.Source g.K.Sink c.loop-node.bays) (bays_view g.P.Source g.K.Sink c.fence.new.bays)
    c.loop-node.invariant.stands c.fence.ensures.stands

pub returns-clause-grows : goal.returns-clause-grows
returns-clause-grows g c =
    let first = bays_view g.P.Source g.K.Sink c.args.bays.now in
    let was = bays_view g.P.Source g.K.Sink c.loop-node.bays in
    let is = bays_view g.P.Source g.K.Sink c.fence.new.bays in
    grows_twice first was is c.loop-node.invariant.grows (grows_same was is c.fence.ensures.retired.line_out)
