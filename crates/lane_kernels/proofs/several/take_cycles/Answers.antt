use Rattle.std.proofs.Common.{length, arith}
use Rattle.lane_kernels.proofs.Cycles.{cycle_more, front_stays}
use Rattle.lane_kernels.proofs.several.take_cycles.Goals as goal

pub loop-cycle-preserved : goal.loop-cycle-preserved
loop-cycle-preserved c = record {
  before = front_stays c.args.into.now c.loop-cycle.into c.take_cycle.new.into (length c.args.slots.now) c.args.from c.loop-cycle.cycle (omega arith) c.loop-cycle.invariant.before c.take_cycle.ensures.below;
  rest = cycle_more c.args.row.now c.args.slots.now c.loop-cycle.into c.take_cycle.new.into c.args.line c.args.from c.loop-cycle.cycle c.loop-cycle.invariant.rest c.take_cycle.ensures.below c.take_cycle.ensures.here;
}
