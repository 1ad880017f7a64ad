use Rattle.run_command.proofs.RunCalls.{run_carries, isolated, is_through, is_carried}
use Rattle.run_command.proofs.laws.headline_of_any_inputs.Goals as goal

pub returns-clause-runs : goal.returns-clause-runs
returns-clause-runs c = λ old new asked now reply. run_carries reply old new asked now

pub returns-clause-isolated : goal.returns-clause-isolated
returns-clause-isolated c = isolated

pub returns-clause-through : goal.returns-clause-through
returns-clause-through c = is_through

pub returns-clause-carried : goal.returns-clause-carried
returns-clause-carried c = is_carried
