use Rattle.line_commands.proofs.SlotTable.{slot_reports, slot_unfinished, slot_counted, slot_took, slot_stopped}
use Rattle.line_commands.proofs.laws.slot_of_given.Goals as goal

pub returns-clause-report : goal.returns-clause-report
returns-clause-report c = slot_reports

pub returns-clause-unfinished : goal.returns-clause-unfinished
returns-clause-unfinished c = slot_unfinished

pub returns-clause-counted : goal.returns-clause-counted
returns-clause-counted c = slot_counted

pub returns-clause-took : goal.returns-clause-took
returns-clause-took c = slot_took

pub returns-clause-stopped : goal.returns-clause-stopped
returns-clause-stopped c = slot_stopped
