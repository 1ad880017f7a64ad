use Rattle.line_side.proofs.LineFiles.{one_file}
use Rattle.line_side.proofs.laws.one_line_file.Goals as goal

pub returns : goal.returns
returns c = one_file
