use Rattle.std.proofs.Common.{rules}
use Rattle.run_laws.proofs.FaultlessRuns.{faultless}
use Rattle.run_laws.proofs.laws.faultless_runs.Goals as goal

pub returns : goal.returns
returns c = search (rules, faultless)
