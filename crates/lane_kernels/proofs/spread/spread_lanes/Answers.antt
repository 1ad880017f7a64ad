use Rattle.std.proofs.Common.{◌+◌, ◌-◌, arith, get_or, length, length-set, ◌∙◌}
use Rattle.std.proofs.Math.ListN.{set}
use Rattle.lane_kernels.proofs.Spreads.{slot_range, lanes_first, lanes_second, lanes_others, lanes_low}
use Rattle.lane_kernels.proofs.spread.spread_lanes.Goals as goal

pub loop-p-preserved : goal.loop-p-preserved
loop-p-preserved c =
    let slots = c.args.slots.now in
    let p = c.loop-p.p in
    let k = get_or slots p 0 in
    let r = slot_range 8 slots c.requires.slots p c.loop-p-test.true in
    record {
      first = lanes_first slots c.loop-p.lanes p c.requires.slots c.loop-p.invariant.long c.loop-p-test.true c.loop-p.invariant.first;
      second = lanes_second slots c.loop-p.lanes p c.requires.slots c.loop-p.invariant.long c.loop-p-test.true c.loop-p.invariant.second;
      others = lanes_others slots c.loop-p.lanes p c.requires.slots c.loop-p-test.true c.loop-p.invariant.others;
      low = lanes_low c.loop-p.lanes (k - 1) (k + 7) p (length slots + p) (omega arith) (omega arith) (omega arith) (omega arith) c.loop-p.invariant.low;
      long = length-set (set c.loop-p.lanes (k - 1) p) (k + 7) (length slots + p) ∙ length-set c.loop-p.lanes (k - 1) p ∙ c.loop-p.invariant.long;
    }
