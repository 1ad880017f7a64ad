use Rattle.lane_kernels.proofs.Blocks.{sixteen_loaded}
use Rattle.lane_kernels.proofs.block.load.Goals as goal

pub returns : goal.returns
returns c = sixteen_loaded c.args.row.now c.args.at c.requires
