use Rattle.std.proofs.Common.{arith}
use Rattle.crc_small.proofs.LookUps.{looked_up_32}
use Rattle.crc_small.proofs.steps.byte32.Goals as goal

pub returns : goal.returns
returns c = looked_up_32 c.args.register c.args.byte (omega arith) (omega arith)
