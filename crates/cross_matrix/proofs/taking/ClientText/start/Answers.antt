use Rattle.cross_matrix.proofs.PartMoves.{text_restarted}
use Rattle.cross_matrix.proofs.taking.ClientText.start.Goals as goal

pub returns-clause-stands : goal.returns-clause-stands
returns-clause-stands c = λ x first trace fcs.
    text_restarted x first c.args.self.now.trace c.args.self.now.fcs c.restart-2.new.self c.restart.new.self trace fcs c.restart-2.ensures.fresh c.restart.ensures.fresh (c.restart.ensures.stands first)
