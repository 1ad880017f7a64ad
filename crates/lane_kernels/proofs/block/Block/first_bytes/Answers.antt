use Rattle.lane_kernels.proofs.Blocks.{firsts}
use Rattle.lane_kernels.proofs.block.Block.first_bytes.Goals as goal

pub returns : goal.returns
returns c = λ f e. let h = firsts f c.args.self e in cc
