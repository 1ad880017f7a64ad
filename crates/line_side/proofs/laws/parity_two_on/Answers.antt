use Rattle.line_side.proofs.LineFiles.{two_on}
use Rattle.line_side.proofs.laws.parity_two_on.Goals as goal

pub returns : goal.returns
returns c = two_on
