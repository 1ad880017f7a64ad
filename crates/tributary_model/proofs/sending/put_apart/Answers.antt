use Rattle.tributary_model.proofs.PutApart.{stays_where_kept, stays_apart}
use Rattle.tributary_model.proofs.sending.put_apart.Goals as goal

pub returns-clause-kept : goal.returns-clause-kept
returns-clause-kept c = stays_where_kept

pub returns-clause-apart : goal.returns-clause-apart
returns-clause-apart c = stays_apart
