use Rattle.stepped_networks.proofs.Stepping.{steps_keep_it, rounds_keep_it, hands_keep_it, ends_as_a_run}
use Rattle.stepped_networks.proofs.laws.stepped_networks_are_runs.Goals as goal

pub returns-clause-steps : goal.returns-clause-steps
returns-clause-steps c = steps_keep_it

pub returns-clause-hands : goal.returns-clause-hands
returns-clause-hands c = hands_keep_it

pub returns-clause-ends : goal.returns-clause-ends
returns-clause-ends c = ends_as_a_run

pub returns-clause-rounds : goal.returns-clause-rounds
returns-clause-rounds c = rounds_keep_it
