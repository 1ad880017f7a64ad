use Rattle.lane_kernels.proofs.SlotPlaces.{apart_more}
use Rattle.lane_kernels.proofs.into_slots.split_thirty_two.Goals as goal

pub loop-quarter-preserved : goal.loop-quarter-preserved
loop-quarter-preserved c =
    apart_more c.args.row.now c.loop-quarter.into c.apart.new.into c.loop-quarter.quarter c.loop-quarter.invariant c.apart.ensures.here c.apart.ensures.others
