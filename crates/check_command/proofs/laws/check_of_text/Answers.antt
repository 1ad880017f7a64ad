use Rattle.check_command.proofs.PlanChecks.{check_told}
use Rattle.check_command.proofs.laws.check_of_text.Goals as goal

pub returns : goal.returns
returns c = λ text old new answer h told a b. check_told answer text new.plan old.plan old.report new.report h told a b
