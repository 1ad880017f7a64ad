use Rattle.std.proofs.Common.{rules}
use Rattle.connection_laws.proofs.Carried.{carries_on}
use Rattle.connection_laws.proofs.carriage.carried_on.Goals as goal

pub returns : goal.returns
returns c = search (rules, carries_on)
