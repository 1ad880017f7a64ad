use Rattle.std.proofs.Common.{◌≡◌, ◌≤◌, ◌-◌, get_or, length, ap, ◌∙◌, arith}
use Rattle.std.proofs.lemmas.List.{get_or-take}
use Rattle.lane_kernels.proofs.Cycles.{half_more}
use Rattle.lane_kernels.proofs.Rising.{few_low, few_high, front_size, back_size, back_slot}
use Rattle.lane_kernels.proofs.several.take_halves.Goals as goal

pub half_lanes-first-requires-clause-few : goal.half_lanes-first-requires-clause-few
half_lanes-first-requires-clause-few c =
    let low = c.low_slots-low in
    let f = few_low c.args.slots.now c.requires.slots low.result low.ensures.count low.ensures.low in
    omega (arith, front_size c.args.slots.now low.result low.ensures.count)

pub half_lanes-second-requires-clause-few : goal.half_lanes-second-requires-clause-few
half_lanes-second-requires-clause-few c =
    let low = c.low_slots-low in
    let f = few_high c.args.slots.now c.requires.slots low.result low.ensures.count low.ensures.high in
    omega (arith, back_size c.args.slots.now low.result low.ensures.count)

pub loop-cycle-preserved : goal.loop-cycle-preserved
loop-cycle-preserved c =
    let slots = c.args.slots.now in
    let low = c.low_slots-low.result in
    let at_most : low ≤ length slots = c.low_slots-low.ensures.count in
    let front = front_size slots low at_most in
    let back = back_size slots low at_most in
    half_more c.args.row.now slots c.loop-cycle.into c.take_pair.new.into c.take_pair-in-loop-cycle.new.into c.half_lanes-first.result c.half_lanes-second.result c.loop-cycle.cycle low
    (few_low slots c.requires.slots low at_most c.low_slots-low.ensures.low)
    (few_high slots c.requires.slots low at_most c.low_slots-low.ensures.high)
    (λ p l. c.half_lanes-first.ensures.each p (omega arith) ∙ ap (λ n. n - 1 - 0) (get_or-take low slots p 0 l) ∙ (let e : get_or slots p 0 - 1 - 0 ≡ get_or slots p 0 - 1 = omega arith in e))
    (λ p l. c.half_lanes-second.ensures.each p (omega arith) ∙ ap (λ n. n - 1 - 16) (back_slot slots low p l))
    c.low_slots-low.ensures.high
    c.loop-cycle.invariant c.take_pair.ensures.below c.take_pair.ensures.here c.take_pair-in-loop-cycle.ensures.below c.take_pair-in-loop-cycle.ensures.here
