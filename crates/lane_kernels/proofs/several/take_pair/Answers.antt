use Rattle.lane_kernels.proofs.Cycles.{lanes_fit, pair_below, pair_here}
use Rattle.lane_kernels.proofs.several.take_pair.Goals as goal

pub swizzle-bytes : goal.swizzle-bytes
swizzle-bytes c = lanes_fit c.args.lanes c.requires.long c.requires.low

pub returns-clause-below : goal.returns-clause-below
returns-clause-below c = pair_below c.args.row.now c.args.into.now c.args.lanes c.args.at c.args.to

pub returns-clause-here : goal.returns-clause-here
returns-clause-here c = pair_here c.args.row.now c.args.into.now c.args.lanes c.args.at c.args.to c.requires.into c.requires.long c.requires.low
