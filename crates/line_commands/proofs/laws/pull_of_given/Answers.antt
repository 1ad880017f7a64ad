use Rattle.line_commands.proofs.PullTable.{pull_reports, pull_unfinished, pull_counted, pull_took, pull_stopped}
use Rattle.line_commands.proofs.laws.pull_of_given.Goals as goal

pub returns-clause-report : goal.returns-clause-report
returns-clause-report c = pull_reports

pub returns-clause-unfinished : goal.returns-clause-unfinished
returns-clause-unfinished c = pull_unfinished

pub returns-clause-counted : goal.returns-clause-counted
returns-clause-counted c = pull_counted

pub returns-clause-took : goal.returns-clause-took
returns-clause-took c = pull_took

pub returns-clause-stopped : goal.returns-clause-stopped
returns-clause-stopped c = pull_stopped
