use Rattle.std.proofs.Common.{arith}
use Rattle.lane_kernels.proofs.Spreads.{cycle_front, cycle_here, cycle_others}
use Rattle.lane_kernels.proofs.spread.put_cycles.Goals as goal

pub loop-cycle-preserved : goal.loop-cycle-preserved
loop-cycle-preserved c =
    let cycle = c.loop-cycle.cycle in
    record {
      before = cycle_front c.args.line c.args.slots.now c.args.row.now c.loop-cycle.row c.put_cycle.new.row c.args.from cycle (omega arith) c.loop-cycle.invariant.before c.put_cycle.ensures.others;
      rest = cycle_here c.args.line c.args.slots.now c.args.bytes.now c.loop-cycle.row c.put_cycle.new.row c.args.from cycle c.requires.slots c.loop-cycle.invariant.rest c.put_cycle.ensures.here c.put_cycle.ensures.others;
      others = cycle_others c.args.line c.args.slots.now c.args.row.now c.loop-cycle.row c.put_cycle.new.row cycle c.requires.slots c.loop-cycle.invariant.others c.put_cycle.ensures.others;
    }
