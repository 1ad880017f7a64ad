use Rattle.std.proofs.Common.{Some, ap, drop, arith}
use Rattle.std.proofs.lemmas.Grind.{common_steps}
use Rattle.port_base.proofs.Lists.{copied}
use Rattle.port_base.proofs.mem_source.MemSourceSource.read.Goals as goal

pub returns-clause-bytes : goal.returns-clause-bytes
returns-clause-bytes c = ap Some (copied c.args.self.now.bytes.items c.copy_from_slice.new.self (drop c.min-n.result c.args.into.now) c.args.self.now.at c.min-n.result (grind (arith, common_steps)) (grind (arith, common_steps)))
