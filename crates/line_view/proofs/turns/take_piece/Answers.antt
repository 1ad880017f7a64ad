use Rattle.std.proofs.Common.{◌≡◌, ◌<◌, ◌+◌, ◌∙◌, ◌++◌, ap, sym, subst, arith}
use Rattle.std.specs.List.{range_with_len}
use Rattle.otn_base.specs.LineSlots.{slots_of}
use Rattle.port_base.specs.InPlace.{in_view}
use Rattle.line_side.specs.LineForm.{LineForm}
use Rattle.line_side.specs.LineStands.{frames_taken}
use Rattle.multiframe.specs.LineTurns.{one_if}
use Rattle.tributary_model.specs.Places.{msi_at}
use Rattle.line_view.specs.Steps.Watching.{EachWatched, TookFrame}
use Rattle.line_view.proofs.Pieces.{piece_none, piece_frame}
use Rattle.line_view.proofs.turns.take_piece.Goals as goal

pub returns-then-not-piece-clause-moves : goal.returns-then-not-piece-clause-moves
returns-then-not-piece-clause-moves g c = λ form first read h.
    let old = c.args.line.now in
    let count : frames_taken c.piece.new.self ≡ frames_taken old =
    c.piece.ensures.frames_taken ∙ ap (λ b. frames_taken old + one_if b) c.if-not-piece.true ∙ omega arith in
    piece_none form first (in_view g.I.Source c.args.place.now) (in_view g.I.Source c.piece.new.place) read c.args.t old c.piece.new.self c.args.watched.now.items c.args.msi.now.items
    c.piece.ensures.pieces (sym c.piece.ensures.has_frame ∙ c.if-not-piece.true) c.piece.ensures.kind count h (c.piece.ensures.stands form first read c.args.t h.line_is)

pub returns-clause-moves : goal.returns-clause-moves
returns-clause-moves g c = λ form first read h.
    let old = c.args.line.now in
    let expected = c.expected-expected.result in
    let hand = c.frame.ensures.hand in
    let p = c.piece.ensures.stands form first read c.args.t h.line_is in
    let count : frames_taken c.piece.new.self ≡ frames_taken old + 1 = c.piece.ensures.frames_taken ∙ ap (λ b. frames_taken old + one_if b) c.if-not-piece.false in
    let few : frames_taken old < slots_of old.kind =
    subst (λ k. frames_taken old < slots_of k) (sym c.requires.kind)
    (let most = c.piece.ensures.most in let pieces = c.piece.ensures.pieces in let low = c.requires.pieces in omega (arith, count, most, pieces, low)) in
    let kind : c.args.kind ≡ form.kind = sym c.requires.kind ∙ ap (λ (f : LineForm). f.kind) h.line_is.is_form in
    let noted = c.note_msi.ensures.bytes
    ∙ ap (λ k. c.args.msi.now.items ++ msi_at (range_with_len 1 (slots_of k)) expected c.frame.result.now) kind
    ∙ ap (λ xs. c.args.msi.now.items ++ msi_at (range_with_len 1 (slots_of form.kind)) expected xs) hand in
    piece_frame form first (in_view g.I.Source c.args.place.now) (in_view g.I.Source c.piece.new.place) read c.args.t expected old c.piece.new.self
    c.args.watched.now.items c.take_each.new.watched.items c.args.msi.now.items c.note_msi.new.msi.items
    c.piece.ensures.pieces (sym c.piece.ensures.has_frame ∙ c.if-not-piece.false) c.piece.ensures.kind count few h p
    (λ available may. c.expected-expected.ensures.line (in_view g.I.Source c.piece.new.place) form first (read ++ p.further) c.args.t p.stands available may)
    (subst (λ xs. EachWatched (TookFrame c.args.t (record { frame = xs; expected = expected })) c.args.watched.now.items c.take_each.new.watched.items) c.frame-2.ensures.hand c.take_each.ensures)
    noted
