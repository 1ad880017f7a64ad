use Rattle.std.proofs.Common.{◌+◌, ◌*◌, ◌≤◌, arith}
use Rattle.lane_kernels.proofs.Turns.{together_here, together_others}
use Rattle.lane_kernels.proofs.turn.together.Goals as goal

pub loop-block-preserved : goal.loop-block-preserved
loop-block-preserved c =
    let from = c.min-from.result in
    let low : from ≤ 16 * c.loop-block.block = omega arith in
    let room : from + 16 ≤ c.args.count = omega arith in
    record {
      here = λ k j lk lj inside. together_here c.args.lists.now c.loop-block.into c.block_together.new.into c.args.at c.args.count c.args.wide c.args.first c.args.step from (16 * c.loop-block.block)
          c.requires.step low c.loop-block.invariant.here c.block_together.ensures.here c.block_together.ensures.others k j lk (omega arith) inside;
      others = together_others c.args.into.now c.loop-block.into c.block_together.new.into c.args.count c.args.first c.args.step from room c.loop-block.invariant.others c.block_together.ensures.others;
    }
