use Rattle.line_side.proofs.LineFiles.{frame_of}
use Rattle.line_side.proofs.laws.frame_by_frame.Goals as goal

pub returns : goal.returns
returns c = frame_of
