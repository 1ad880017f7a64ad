use Rattle.std.proofs.Common.{rules}
use Rattle.connection_laws.proofs.Chains.{carries_through_all}
use Rattle.connection_laws.proofs.carriage.carried_through_all.Goals as goal

pub returns : goal.returns
returns c = search (rules, carries_through_all)
