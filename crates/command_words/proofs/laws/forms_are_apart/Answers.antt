use Rattle.command_words.proofs.Forms.{one_form}
use Rattle.command_words.proofs.laws.forms_are_apart.Goals as goal

pub returns : goal.returns
returns c = one_form
