use Rattle.tributary_model.proofs.PutCarries.{carries_what_is_put}
use Rattle.tributary_model.proofs.PutOn.{carries_all_that_is_put, arrives_as_it_is_put}
use Rattle.tributary_model.proofs.sending.what_is_put.Goals as goal

pub returns-clause-turn : goal.returns-clause-turn
returns-clause-turn c = carries_what_is_put

pub returns-clause-all : goal.returns-clause-all
returns-clause-all c = carries_all_that_is_put

pub returns-clause-arrives : goal.returns-clause-arrives
returns-clause-arrives c = arrives_as_it_is_put
