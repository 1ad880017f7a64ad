use Rattle.std.proofs.Common.{rules}
use Rattle.connection_laws.proofs.RunsInARow.{carries_through_runs}
use Rattle.connection_laws.proofs.runs.carried_through_runs.Goals as goal

pub returns : goal.returns
returns c = search (rules, carries_through_runs)
