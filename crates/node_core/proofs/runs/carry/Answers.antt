use Rattle.std.proofs.Common.{◌≡◌, ◌<◌, ◌-◌, arith, sym, refl, ◌∙◌}
use Rattle.port_base.specs.Racks.{bays_view}
use Rattle.node_moments.specs.NodeView.{left_of, ready_number}
use Rattle.node_moments.proofs.Later.{later_twice, none_ready, left_step, left_fence, asked_more, asked_same, step_smaller, fence_smaller}
use Rattle.node_core.proofs.runs.carry.Goals as goal

pub loop-node-preserved : goal.loop-node-preserved
loop-node-preserved g c =
    let e = c.step.ensures in
    let less = left_step c.nth_ready-port.result c.loop-node.node c.step.new.self c.nth_ready-port.ensures.ready e.piece e.turns e.past in
    record {
      stands = λ plan first read h. later_twice plan first read c.args.node.now c.loop-node.node c.step.new.self (bays_view g.P.Source g.K.Sink c.loop-node.bays) (bays_view g.P.Source g.K.Sink c.step.new.bays)
          (c.loop-node.invariant.stands plan first read h) (λ k. e.stands plan first _ k);
      turns = e.turns ∙ c.loop-node.invariant.turns;
      asked = asked_more _ _ _ _ _ c.pick.ensures less c.loop-node.invariant.asked;
    }

pub loop-node-smaller : goal.loop-node-smaller
loop-node-smaller g c =
    let e = c.step.ensures in
    let less = left_step c.nth_ready-port.result c.loop-node.node c.step.new.self c.nth_ready-port.ensures.ready e.piece e.turns e.past in
    step_smaller (left_of c.loop-node.node) (left_of c.step.new.self) (c.loop-node.node.turns - c.loop-node.node.past) (c.step.new.self.turns - c.step.new.self.past) less (rw (e.past, e.turns) refl)

pub fence-requires-clause-none : goal.fence-requires-clause-none
fence-requires-clause-none g c = none_ready c.loop-node.node (sym c.ready_count-count.ensures ∙ c.if-count-eq0.true)

pub loop-node-preserved-then-count-eq0 : goal.loop-node-preserved-then-count-eq0
loop-node-preserved-then-count-eq0 g c =
    let fence = c.fence.ensures.ends in
    let none : ready_number c.loop-node.node ≡ 0 = sym c.ready_count-count.ensures ∙ c.if-count-eq0.true in
    let going : c.loop-node.node.past < c.loop-node.node.turns = grind arith in
    let same = left_fence c.loop-node.node c.fence.new.self going (none_ready c.loop-node.node none) fence in
    record {
      stands = λ plan first read h. later_twice plan first read c.args.node.now c.loop-node.node c.fence.new.self (bays_view g.P.Source g.K.Sink c.loop-node.bays) (bays_view g.P.Source g.K.Sink c.fence.new.bays)
          (c.loop-node.invariant.stands plan first read h) (λ k. c.fence.ensures.stands plan first _ k);
      turns = fence.turns ∙ c.loop-node.invariant.turns;
      asked = asked_same (g.C.Chooser.asked c.loop-node.chooser) _ _ _ same c.loop-node.invariant.asked;
    }

pub loop-node-smaller-then-count-eq0 : goal.loop-node-smaller-then-count-eq0
loop-node-smaller-then-count-eq0 g c =
    let fence = c.fence.ensures.ends in
    let none : ready_number c.loop-node.node ≡ 0 = sym c.ready_count-count.ensures ∙ c.if-count-eq0.true in
    let going : c.loop-node.node.past < c.loop-node.node.turns = grind arith in
    let same = left_fence c.loop-node.node c.fence.new.self going (none_ready c.loop-node.node none) fence in
    fence_smaller (left_of c.loop-node.node) (left_of c.fence.new.self) (c.loop-node.node.turns - c.loop-node.node.past) (c.fence.new.self.turns - c.fence.new.self.past) same (rw (fence.past, fence.turns) (omega arith))
