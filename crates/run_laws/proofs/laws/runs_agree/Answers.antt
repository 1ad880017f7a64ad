use Rattle.std.proofs.Common.{rules}
use Rattle.run_laws.proofs.RunsAlike.{left_alike}
use Rattle.run_laws.proofs.laws.runs_agree.Goals as goal

pub returns : goal.returns
returns c = search (rules, left_alike)
