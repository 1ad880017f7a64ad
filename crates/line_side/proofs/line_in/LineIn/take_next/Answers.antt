use Rattle.line_side.proofs.Moves.{takes_none, takes_frame}
use Rattle.line_side.proofs.line_in.LineIn.take_next.Goals as goal

pub returns-then-not-advance-clause-takes : goal.returns-then-not-advance-clause-takes
returns-then-not-advance-clause-takes g c = rw (← c.self.view_is) (takes_none _ _ _ _ c.if-not-advance.ensures.advances)

pub returns-clause-takes : goal.returns-clause-takes
returns-clause-takes g c = let room = rw (← c.self.view_is) at c.requires.room in rw (← c.self.view_is, c.take.ensures) (takes_frame _ _ _ _ c.mfas.result _ room c.if-not-advance.ensures.advances c.mfas.ensures)
