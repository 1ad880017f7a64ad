use Rattle.lane_kernels.proofs.Blocks.{two_loaded}
use Rattle.lane_kernels.proofs.block.load_two.Goals as goal

pub returns : goal.returns
returns c = two_loaded c.args.row.now c.args.first c.args.second c.requires.first c.requires.second
