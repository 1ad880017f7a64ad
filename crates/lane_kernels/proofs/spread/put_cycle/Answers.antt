use Rattle.std.proofs.Common.{◌+◌, arith, get_or}
use Rattle.lane_kernels.proofs.Spreads.{slot_here, slot_others}
use Rattle.lane_kernels.proofs.spread.put_cycle.Goals as goal

pub loop-p-preserved : goal.loop-p-preserved
loop-p-preserved c =
    let p = c.loop-p.p in
    record {
      here = slot_here c.args.line c.args.slots.now c.args.bytes.now c.loop-p.row c.args.at c.args.from p c.requires.slots (omega arith) c.loop-p-test.true c.loop-p.invariant.here;
      others = slot_others c.args.slots.now c.args.row.now c.loop-p.row c.args.at p (get_or c.args.bytes.now (c.args.from + p) 0) c.loop-p.invariant.others;
    }
