use Rattle.line_side.proofs.LineFiles.{through}
use Rattle.line_side.proofs.laws.frames_through_mask.Goals as goal

pub returns : goal.returns
returns c = through
