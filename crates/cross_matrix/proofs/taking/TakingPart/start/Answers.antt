use Rattle.std.proofs.Common.{subst}
use Rattle.cross_matrix.specs.Parts.{TakesFrom}
use Rattle.cross_matrix.proofs.PartMoves.{signal_restarted}
use Rattle.cross_matrix.proofs.taking.TakingPart.start.Goals as goal

pub returns-in-Signal-clause-stands : goal.returns-in-Signal-clause-stands
returns-in-Signal-clause-stands c = λ from x input h of. signal_restarted from x input c.in-Signal.stream c.restart-in-Signal.new.self c.restart-in-Signal.ensures (subst (TakesFrom from x) c.in-Signal.is h) of
