use Rattle.line_side.proofs.Moves.{tries_ends, tries_passes, tries_locks}
use Rattle.line_side.proofs.line_in.LineIn.try_frame.Goals as goal

pub returns-then-not-advance-clause-tries : goal.returns-then-not-advance-clause-tries
returns-then-not-advance-clause-tries g c = rw (← c.self.view_is) (tries_ends _ _ _ _ _ c.if-not-advance.ensures.advances)

pub returns-then-not-begins-clause-tries : goal.returns-then-not-begins-clause-tries
returns-then-not-begins-clause-tries g c = let began = rw c.kind.ensures at c.if-not-begins.ensures.begins in rw (← c.self.view_is, c.saturating_add-self-inside.ensures) (tries_passes _ _ _ _ _ _ _ c.if-not-advance.ensures.advances began)

pub returns-clause-tries : goal.returns-clause-tries
returns-clause-tries g c = let began = rw c.kind.ensures at c.if-not-begins.ensures.begins in let hunting = rw (← c.self.view_is) at c.requires.hunting in rw (← c.self.view_is, c.take.ensures, c.lock.ensures)
    (tries_locks _ _ _ _ _ _ _ c.mfas-mfas.result hunting c.if-not-advance.ensures.advances began c.mfas-mfas.ensures)
