use Rattle.tributary_model.proofs.PutOn.{sends_on_what_is_put}
use Rattle.tributary_model.proofs.sending.sent_on.Goals as goal

pub returns : goal.returns
returns c = sends_on_what_is_put
