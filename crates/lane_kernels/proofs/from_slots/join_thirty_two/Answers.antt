use Rattle.std.proofs.Common.{arith}
use Rattle.lane_kernels.proofs.SlotPlaces.{together_more}
use Rattle.lane_kernels.proofs.from_slots.join_thirty_two.Goals as goal

pub loop-quarter-preserved : goal.loop-quarter-preserved
loop-quarter-preserved c =
    together_more c.args.lists.now c.loop-quarter.into c.together.new.into c.loop-quarter.quarter c.loop-quarter.invariant c.together.ensures.here c.together.ensures.others (omega arith)
