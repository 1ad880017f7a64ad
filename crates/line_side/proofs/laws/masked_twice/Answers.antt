use Rattle.line_side.proofs.LineFiles.{twice}
use Rattle.line_side.proofs.laws.masked_twice.Goals as goal

pub returns : goal.returns
returns c = twice
