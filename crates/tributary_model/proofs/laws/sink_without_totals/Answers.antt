use Rattle.tributary_model.proofs.Law.{machine_is_emission, amount_is, state_is}
use Rattle.tributary_model.proofs.laws.sink_without_totals.Goals as goal

pub returns-clause-bytes : goal.returns-clause-bytes
returns-clause-bytes c = machine_is_emission

pub returns-clause-count : goal.returns-clause-count
returns-clause-count c = amount_is

pub returns-clause-state : goal.returns-clause-state
returns-clause-state c = state_is
