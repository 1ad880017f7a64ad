use Rattle.std.proofs.Common.{rules}
use Rattle.run_laws.proofs.GivenRuns.{given_inputs, of_given}
use Rattle.run_laws.proofs.laws.run_of_given.Goals as goal

pub returns-clause-inputs : goal.returns-clause-inputs
returns-clause-inputs c = search (rules, given_inputs)

pub returns-clause-run : goal.returns-clause-run
returns-clause-run c = search (rules, of_given)
