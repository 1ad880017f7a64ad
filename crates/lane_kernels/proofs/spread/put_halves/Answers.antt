use Rattle.std.proofs.Common.{◌≡◌, ◌≤◌, ◌+◌, ◌-◌, get_or, length, take, ap, sym, ◌∙◌, arith}
use Rattle.std.proofs.lemmas.List.{get_or-take}
use Rattle.lane_kernels.proofs.Spreads.{halves_spread, halves_others}
use Rattle.lane_kernels.proofs.Rising.{few_low, few_high, front_size, back_size, back_slot, front_rises, back_rises}
use Rattle.lane_kernels.proofs.spread.put_halves.Goals as goal

pub half_spread-first-requires-clause-rising : goal.half_spread-first-requires-clause-rising
half_spread-first-requires-clause-rising c = front_rises c.args.slots.now c.low_slots-low.result c.requires.slots c.low_slots-low.ensures.count

pub half_spread-first-requires-clause-few : goal.half_spread-first-requires-clause-few
half_spread-first-requires-clause-few c =
    let low = c.low_slots-low in
    let f = few_low c.args.slots.now c.requires.slots low.result low.ensures.count low.ensures.low in
    omega (arith, front_size c.args.slots.now low.result low.ensures.count)

pub half_spread-second-requires-clause-rising : goal.half_spread-second-requires-clause-rising
half_spread-second-requires-clause-rising c = back_rises c.args.slots.now c.low_slots-low.result c.requires.slots c.low_slots-low.ensures.count

pub half_spread-second-requires-clause-few : goal.half_spread-second-requires-clause-few
half_spread-second-requires-clause-few c =
    let low = c.low_slots-low in
    let f = few_high c.args.slots.now c.requires.slots low.result low.ensures.count low.ensures.high in
    omega (arith, back_size c.args.slots.now low.result low.ensures.count)

pub loop-cycle-preserved : goal.loop-cycle-preserved
loop-cycle-preserved c =
    let slots = c.args.slots.now in
    let low = c.low_slots-low.result in
    let first = c.half_spread-first in
    let second = c.half_spread-second in
    let at_most : low ≤ length slots = c.low_slots-low.ensures.count in
    let front = front_size slots low at_most in
    let back = back_size slots low at_most in
    record {
      here = halves_spread slots c.args.bytes.now c.loop-cycle.row c.put_pair.new.row c.put_pair-in-loop-cycle.new.row first.result second.result c.loop-cycle.cycle low
          c.requires.slots (few_low slots c.requires.slots low at_most c.low_slots-low.ensures.low) (few_high slots c.requires.slots low at_most c.low_slots-low.ensures.high)
          c.low_slots-low.ensures.low c.low_slots-low.ensures.high
          (λ p l. ap (λ n. get_or first.result n 0) (let e : get_or slots p 0 - 1 ≡ get_or (take low slots) p 0 - 1 - 0 = omega (arith, get_or-take low slots p 0 l) in e) ∙ first.ensures.each p (omega arith))
          (λ p l. ap (λ n. get_or second.result (n - 1 - 16) 0) (sym (back_slot slots low p l)) ∙ second.ensures.each p (omega arith))
          c.loop-cycle.invariant.here c.put_pair.ensures.here c.put_pair.ensures.outside c.put_pair-in-loop-cycle.ensures.here c.put_pair-in-loop-cycle.ensures.outside;
      others = halves_others slots c.args.row.now c.loop-cycle.row c.put_pair.new.row c.put_pair-in-loop-cycle.new.row first.result second.result c.loop-cycle.cycle low at_most
          (λ i li none. first.ensures.others i li (λ p l e. none p (omega arith) (let f : i + 1 ≡ 0 + i + 1 = omega arith in f ∙ e ∙ get_or-take low slots p 0 (omega arith))))
          (λ i li none. second.ensures.others i li (λ p l e. none p (omega arith) (e ∙ back_slot slots low p (omega arith))))
          c.loop-cycle.invariant.others c.put_pair.ensures.kept c.put_pair.ensures.outside c.put_pair-in-loop-cycle.ensures.kept c.put_pair-in-loop-cycle.ensures.outside;
    }
