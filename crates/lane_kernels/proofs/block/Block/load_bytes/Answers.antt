use Rattle.std.proofs.Common.{◌≡◌, ◌+◌, ◌*◌, arith}
use Rattle.lane_kernels.specs.Steps.Blocks.{by_bytes}
use Rattle.lane_kernels.proofs.block.Block.load_bytes.Goals as goal

pub returns : goal.returns
unfolding by_bytes
returns c =
    let at = c.args.at in
    let step = c.args.step in
    let e : at ≡ at + step * 0 = omega arith in
    let e1 : at + step ≡ at + step * 1 = omega arith in
    cc
