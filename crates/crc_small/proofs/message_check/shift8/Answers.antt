use Rattle.std.proofs.Common.{sym, arith}
use Rattle.crc_small.proofs.Register.{shift_over}
use Rattle.crc_small.proofs.message_check.shift8.Goals as goal

pub returns-then-register-ge128 : goal.returns-then-register-ge128
returns-then-register-ge128 c = sym (shift_over 8 0x0D c.args.register (omega arith) (omega arith) (omega arith))
