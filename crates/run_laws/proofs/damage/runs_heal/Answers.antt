use Rattle.std.proofs.Common.{rules}
use Rattle.run_laws.proofs.RunsDamaged.{runs_heal}
use Rattle.run_laws.proofs.damage.runs_heal.Goals as goal

pub returns : goal.returns
returns c = search (rules, runs_heal)
