use Rattle.run_command.proofs.SeenCalls.{of_a_plan, carried_it, isolated, not_ahead, is_through, is_carried, leaves_others}
use Rattle.run_command.proofs.laws.headline.Goals as goal

pub returns-clause-runs : goal.returns-clause-runs
returns-clause-runs c = λ old new asked now reply. of_a_plan reply old new asked now

pub returns-clause-plan : goal.returns-clause-plan
returns-clause-plan c = carried_it

pub returns-clause-isolated : goal.returns-clause-isolated
returns-clause-isolated c = isolated

pub returns-clause-ahead : goal.returns-clause-ahead
returns-clause-ahead c = not_ahead

pub returns-clause-through : goal.returns-clause-through
returns-clause-through c = is_through

pub returns-clause-carried : goal.returns-clause-carried
returns-clause-carried c = is_carried

pub returns-clause-others : goal.returns-clause-others
returns-clause-others c = leaves_others
