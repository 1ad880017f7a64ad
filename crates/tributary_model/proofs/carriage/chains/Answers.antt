use Rattle.tributary_model.proofs.Passing.{carries_to_the_end}
use Rattle.tributary_model.proofs.carriage.chains.Goals as goal

pub returns : goal.returns
returns c = carries_to_the_end
