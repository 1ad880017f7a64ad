use Rattle.std.proofs.Common.{◌-◌, get_or, length-set, ◌∙◌, arith}
use Rattle.lane_kernels.proofs.Spreads.{half_each, half_others, lane_low}
use Rattle.lane_kernels.proofs.spread.half_spread.Goals as goal

pub loop-p-preserved : goal.loop-p-preserved
loop-p-preserved c =
    let slots = c.args.slots.now in
    let before = c.args.before in
    let p = c.loop-p.p in
    let k = get_or slots p 0 in
    let a = c.requires.low p c.loop-p-test.true in
    let b = c.requires.high p c.loop-p-test.true in
    record {
      each = half_each slots c.loop-p.lanes before p c.loop-p.invariant.long c.loop-p-test.true c.requires.low c.requires.high c.requires.rising c.loop-p.invariant.each;
      others = half_others slots c.loop-p.lanes before p c.loop-p-test.true c.requires.low c.loop-p.invariant.others;
      low = lane_low c.loop-p.lanes (k - 1 - before) p (omega arith) (omega arith) c.loop-p.invariant.low;
      long = length-set c.loop-p.lanes (k - 1 - before) p ∙ c.loop-p.invariant.long;
    }
