use Rattle.lane_kernels.proofs.Cycles.{pair_more}
use Rattle.lane_kernels.proofs.several.take_pairs.Goals as goal

pub loop-pair-preserved : goal.loop-pair-preserved
loop-pair-preserved c =
    let lanes = c.pair_lanes-lanes in
    pair_more c.args.row.now c.args.slots.now c.loop-pair.into c.take_pair.new.into lanes.result c.loop-pair.pair c.requires.few
    lanes.ensures.first lanes.ensures.second c.loop-pair.invariant c.take_pair.ensures.below c.take_pair.ensures.here
