use Rattle.line_side.proofs.Moves.{step_keeps}
use Rattle.line_side.proofs.Standing.{piece_stands, piece_gave, first_is}
use Rattle.line_side.proofs.line_in.LineIn.piece.Goals as goal

pub returns-clause-stands : goal.returns-clause-stands
returns-clause-stands g c = rw (← c.self.view_is) (λ form first read t h.
    let e = c.step-self-inside.ensures in
    let moves = rw (← c.self-2.view_is) at e.moves in
    let keeps = step_keeps _ _ _ _ _ _ _ moves in
    piece_stands form first _ _ read t _ c.step-self-inside.result _ _ (first_is c.self.inside.pieces) moves keeps.pieces keeps.kind h)

pub returns-clause-gave : goal.returns-clause-gave
returns-clause-gave g c = piece_gave _ _ _ _ _ _ _ c.step-self-inside.ensures.moves
