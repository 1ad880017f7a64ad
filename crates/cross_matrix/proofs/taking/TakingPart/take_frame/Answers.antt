use Rattle.std.proofs.Common.{false, subst}
use Rattle.cross_matrix.specs.Parts.{TakingStands}
use Rattle.cross_matrix.proofs.PartMoves.{line_took}
use Rattle.cross_matrix.proofs.taking.TakingPart.take_frame.Goals as goal

pub returns-in-Line-clause-stands : goal.returns-in-Line-clause-stands
returns-in-Line-clause-stands g c = λ from x input j frames h.
    line_took from x input j frames _ c.in-Line.sink c.take_frame.new.self (λ own past s. c.take_frame.ensures.stands own past frames s) (subst (TakingStands from x input j frames false) c.in-Line.is h)
