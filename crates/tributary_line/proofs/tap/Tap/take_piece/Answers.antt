use Rattle.std.proofs.Common.{◌∙◌, ◌++◌, sym}
use Rattle.port_base.specs.InPlace.{in_view}
use Rattle.line_side.specs.LineForm.{plain_otu2}
use Rattle.tributary_line.proofs.TapPieces.{piece_none, piece_frame}
use Rattle.tributary_line.proofs.tap.Tap.take_piece.Goals as goal

pub returns-then-not-piece-clause-moves : goal.returns-then-not-piece-clause-moves
returns-then-not-piece-clause-moves g c = rw (sym c.self.view_is) (λ own first bytes t h.
    piece_none own first (in_view g.I.Source c.args.place.now) (in_view g.I.Source c.piece.new.place) bytes t (record { line = c.self.inside.line; sink = c.self.inside.sink }) c.piece.new.self
    c.piece.ensures.pieces (sym c.piece.ensures.has_frame ∙ c.if-not-piece.true) h (c.piece.ensures.stands plain_otu2 first bytes t h.line))

pub returns-clause-moves : goal.returns-clause-moves
returns-clause-moves g c = rw (sym c.self.view_is) (λ own first bytes t h.
    let p = c.piece.ensures.stands plain_otu2 first bytes t h.line in
    piece_frame own first (in_view g.I.Source c.args.place.now) (in_view g.I.Source c.piece.new.place) bytes t c.expected.result (record { line = c.self.inside.line; sink = c.self.inside.sink }) c.piece.new.self c.take_frame.new.self
    c.piece.ensures.pieces (sym c.piece.ensures.has_frame ∙ c.if-not-piece.false) h p
    (λ available may. c.expected.ensures.line (in_view g.I.Source c.piece.new.place) plain_otu2 first (bytes ++ p.further) t p.stands available may)
    (λ past frames stands. rw c.frame.ensures.hand at c.take_frame.ensures.stands own past frames stands))
