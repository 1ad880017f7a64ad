use Rattle.tributary_model.proofs.Intact.{emits_after_damage, up_after_damage}
use Rattle.tributary_model.proofs.carriage.healing.Goals as goal

pub returns-clause-bytes : goal.returns-clause-bytes
returns-clause-bytes c = emits_after_damage

pub returns-clause-state : goal.returns-clause-state
returns-clause-state c = up_after_damage
