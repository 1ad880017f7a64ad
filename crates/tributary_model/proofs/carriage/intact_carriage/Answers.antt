use Rattle.tributary_model.proofs.Intact.{emits_what_is_carried, up_while_carried, emits_the_rest}
use Rattle.tributary_model.proofs.Sender.{can_be_carried}
use Rattle.tributary_model.proofs.carriage.intact_carriage.Goals as goal

pub returns-clause-bytes : goal.returns-clause-bytes
returns-clause-bytes c = emits_what_is_carried

pub returns-clause-state : goal.returns-clause-state
returns-clause-state c = up_while_carried

pub returns-clause-rest : goal.returns-clause-rest
returns-clause-rest c = emits_the_rest

pub returns-clause-carried : goal.returns-clause-carried
returns-clause-carried c = can_be_carried
