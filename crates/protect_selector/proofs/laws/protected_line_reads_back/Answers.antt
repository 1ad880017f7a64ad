use Rattle.protect_selector.proofs.ReadsBack.{reads_back}
use Rattle.protect_selector.proofs.laws.protected_line_reads_back.Goals as goal

pub returns : goal.returns
returns c = reads_back
