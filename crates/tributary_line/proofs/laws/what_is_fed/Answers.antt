use Rattle.tributary_line.proofs.FileTurns.{carries_its_turns}
use Rattle.tributary_line.proofs.laws.what_is_fed.Goals as goal

pub returns : goal.returns
returns c = carries_its_turns
