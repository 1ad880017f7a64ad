use Rattle.otn_c.proofs.ByteRuns.{carries_plan, is_run, run_of}
use Rattle.otn_c.proofs.Isolated.{isolated}
use Rattle.otn_c.proofs.laws.headline_of_bytes.Goals as goal

pub returns-clause-plans : goal.returns-clause-plans
returns-clause-plans c = carries_plan

pub returns-clause-runs : goal.returns-clause-runs
returns-clause-runs c = λ call has. (run_of call has, is_run call has)

pub returns-clause-isolated : goal.returns-clause-isolated
returns-clause-isolated c = isolated c.headline.ensures.isolated
