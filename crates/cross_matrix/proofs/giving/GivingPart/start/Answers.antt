use Rattle.std.proofs.Common.{subst}
use Rattle.cross_matrix.specs.Parts.{GivesTo}
use Rattle.cross_matrix.proofs.PartMoves.{source_restarted}
use Rattle.cross_matrix.proofs.giving.GivingPart.start.Goals as goal

pub returns-in-Line-clause-stands : goal.returns-in-Line-clause-stands
returns-in-Line-clause-stands c = λ to x input h. source_restarted to x input c.in-Line.source c.start_line.new.source c.start_line.ensures.stands (subst (GivesTo to) c.in-Line.is h)

pub returns-in-Client-clause-text : goal.returns-in-Client-clause-text
returns-in-Client-clause-text c = λ first client. c.restart.ensures first
