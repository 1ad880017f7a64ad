use Rattle.crc_small.proofs.Register.{crc5-two}
use Rattle.crc_small.proofs.message_check.crc5.Goals as goal

pub returns-clause-check : goal.returns-clause-check
returns-clause-check c = let two = crc5-two c.args.d in cc
