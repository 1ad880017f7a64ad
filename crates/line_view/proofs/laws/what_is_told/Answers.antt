use Rattle.line_view.proofs.Telling.{tells_the_same, tells_all_bytes, tells_what_pull_writes}
use Rattle.line_view.proofs.laws.what_is_told.Goals as goal

pub returns-clause-same : goal.returns-clause-same
returns-clause-same c = tells_the_same

pub returns-clause-bytes : goal.returns-clause-bytes
returns-clause-bytes c = tells_all_bytes

pub returns-clause-pull : goal.returns-clause-pull
returns-clause-pull c = tells_what_pull_writes
