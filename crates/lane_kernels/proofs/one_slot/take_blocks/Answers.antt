use Rattle.lane_kernels.proofs.Takes.{blocks_more}
use Rattle.lane_kernels.proofs.one_slot.take_blocks.Goals as goal

pub loop-block-preserved : goal.loop-block-preserved
loop-block-preserved c =
    blocks_more c.args.row.now c.loop-block.into c.take_block.new.into c.args.first c.loop-block.block c.loop-block.invariant c.take_block.ensures.below c.take_block.ensures.here
