use Rattle.std.proofs.Common.{Some, ap, drop, arith}
use Rattle.std.proofs.lemmas.Grind.{common_steps}
use Rattle.port_base.proofs.Lists.{copied}
use Rattle.filled_ports.proofs.source.FilledSourceSource.read.Goals as goal

pub returns-clause-bytes : goal.returns-clause-bytes
returns-clause-bytes c =
    let items = c.args.self.now.bytes.items in
    ap Some (copied items c.copy_from_slice.new.self (drop c.min-n.result c.args.into.now) c.args.self.now.at c.min-n.result
    (grind (arith, common_steps)) (grind (arith, common_steps)))
