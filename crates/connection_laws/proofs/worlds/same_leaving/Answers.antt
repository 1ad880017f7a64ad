use Rattle.std.proofs.Common.{rules}
use Rattle.connection_laws.proofs.WorldInputs.{gives_the_same_input, leaves_the_same, owes_the_same, reports_the_same}
use Rattle.connection_laws.proofs.worlds.same_leaving.Goals as goal

pub returns-clause-input : goal.returns-clause-input
returns-clause-input c = search (rules, gives_the_same_input)

pub returns-clause-leaves : goal.returns-clause-leaves
returns-clause-leaves c = search (rules, leaves_the_same)

pub returns-clause-due : goal.returns-clause-due
returns-clause-due c = search (rules, owes_the_same)

pub returns-clause-report : goal.returns-clause-report
returns-clause-report c = search (rules, reports_the_same)
