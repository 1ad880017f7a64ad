use Rattle.run_laws.proofs.SeenRuns.{seen_alike, not_ahead, puts_through, carries_over}
use Rattle.run_laws.proofs.laws.seen_runs.Goals as goal

pub returns-clause-agree : goal.returns-clause-agree
returns-clause-agree c = seen_alike

pub returns-clause-through : goal.returns-clause-through
returns-clause-through c = puts_through

pub returns-clause-carry : goal.returns-clause-carry
returns-clause-carry c = carries_over

pub returns-clause-others : goal.returns-clause-others
returns-clause-others c = λ run name is unused. is.left.idle name unused

pub returns-clause-ahead : goal.returns-clause-ahead
returns-clause-ahead c = not_ahead
