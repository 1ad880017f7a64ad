use Rattle.std.proofs.Common.{◌+◌, ◌-◌, arith}
use Rattle.bundle_command.proofs.Lists.{given_front}
use Rattle.bundle_command.proofs.framing.Framing.give.Goals as goal

pub returns-clause-bytes : goal.returns-clause-bytes
returns-clause-bytes c =
    given_front c.args.self.now.frame c.as_bytes.result.now c.args.into.now c.copy_front.new.into c.args.self.now.at c.min-count.result (c.args.self.now.at + c.min-count.result - c.args.self.now.at) _ c.as_bytes.ensures.bytes c.copy_front.ensures
    (omega arith) (let size = c.args.self.now.size in let count = c.min-count.ensures in let within = c.args.self.now.within in omega arith)
