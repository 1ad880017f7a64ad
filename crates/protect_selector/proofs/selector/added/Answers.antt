use Rattle.std.proofs.Math.Nat.{add-mod-mod}
use Rattle.protect_selector.proofs.selector.added.Goals as goal

pub returns-clause-value : goal.returns-clause-value
returns-clause-value c = add-mod-mod c.args.count c.args.bytes c.args.m
