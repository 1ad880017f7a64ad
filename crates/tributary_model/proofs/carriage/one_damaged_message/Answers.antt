use Rattle.tributary_model.proofs.OneDamaged.{as_if_repeated}
use Rattle.tributary_model.proofs.carriage.one_damaged_message.Goals as goal

pub returns : goal.returns
returns c = as_if_repeated
