use Rattle.std.proofs.Common.{false, subst}
use Rattle.plan_file.specs.declared.connection.FromEnd.TheVariants as from_end
use Rattle.device_model.specs.Through.{of_line}
use Rattle.cross_matrix.specs.Parts.{TakesFrom, TakingStands}
use Rattle.cross_matrix.proofs.PartMoves.{line_ended, line_from}
use Rattle.cross_matrix.proofs.taking.TakingPart.end_frames.Goals as goal

pub returns-in-Line-clause-stands : goal.returns-in-Line-clause-stands
returns-in-Line-clause-stands c = λ x a port slots shows j frames h e.
    line_ended a port slots x shows j c.args.whole frames c.in-Line.sink c.hand_over-emitted.new.self c.hand_over-emitted.ensures.stands (subst (TakingStands (from_end.Line a port slots) x (of_line shows) j frames false) c.in-Line.is h) e

pub returns-in-Line-clause-entry : goal.returns-in-Line-clause-entry
returns-in-Line-clause-entry c = λ from x h. line_from from x c.in-Line.sink c.hand_over-emitted.new.self c.hand_over-emitted.ensures.slots c.hand_over-emitted.ensures.port (subst (TakesFrom from x) c.in-Line.is h)
