use Rattle.std.proofs.Common.{arith}
use Rattle.lane_kernels.proofs.Rising.{stays_high}
use Rattle.lane_kernels.proofs.several.low_slots.Goals as goal

pub returns-then-k-gt16-clause-high : goal.returns-then-k-gt16-clause-high
returns-then-k-gt16-clause-high c = λ p h l. stays_high 32 c.args.slots.now c.requires c.loop-p.p p (omega arith) h l
