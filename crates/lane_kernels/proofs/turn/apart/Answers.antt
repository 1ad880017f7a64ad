use Rattle.std.proofs.Common.{◌+◌, ◌*◌, ◌≤◌, arith}
use Rattle.lane_kernels.proofs.Turns.{apart_here, apart_others}
use Rattle.lane_kernels.proofs.turn.apart.Goals as goal

pub loop-block-preserved : goal.loop-block-preserved
loop-block-preserved c =
    let from = c.min-from.result in
    let low : from ≤ 16 * c.loop-block.block = omega arith in
    let room : from + 16 ≤ c.args.count = omega arith in
    record {
      here = λ k j lk lj inside. apart_here c.args.row.now c.loop-block.into c.block_apart.new.into c.args.first c.args.step c.args.to c.args.count c.args.wide from (16 * c.loop-block.block)
          c.requires.wide low room c.loop-block.invariant.here c.block_apart.ensures.here c.block_apart.ensures.others k j lk (omega arith) inside;
      others = apart_others c.args.into.now c.loop-block.into c.block_apart.new.into c.args.to c.args.count c.args.wide from room c.loop-block.invariant.others c.block_apart.ensures.others;
    }
