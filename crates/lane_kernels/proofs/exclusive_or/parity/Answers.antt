use Rattle.std.proofs.Common.{◌≡◌, ◌+◌, ◌*◌, ◌/◌, ◌≤◌, arith, length}
use Rattle.lane_kernels.proofs.Xor.{block_more, block_length, finish}
use Rattle.lane_kernels.proofs.exclusive_or.parity.Goals as goal

pub loop-block-preserved : goal.loop-block-preserved
loop-block-preserved c =
    let room : 64 * c.loop-block.block + 64 ≤ length c.args.bytes.now = omega arith in
    record {
      lanes_are = block_length c.args.bytes.now c.loop-block.lanes c.loop-block.block c.loop-block.invariant.lanes_are room;
      so_far = block_more c.args.bytes.now c.loop-block.lanes c.loop-block.block c.loop-block.invariant.lanes_are room c.loop-block.invariant.so_far;
    }

pub returns : goal.returns
returns c =
    let last : c.loop-block.block ≡ length c.args.bytes.now / 64 = omega arith in
    finish c.args.bytes.now c.loop-block.lanes c.loop-block.block c.parity_from.result last c.loop-block.invariant.so_far c.parity_from.ensures
