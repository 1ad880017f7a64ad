use Rattle.std.proofs.Common.{◌≡◌, Bool, ◌∙◌, ◌+◌, ◌++◌, sym, ap, subst}
use Rattle.otn_base.specs.LineSlots.{slots_of}
use Rattle.port_base.specs.InPlace.{in_view}
use Rattle.line_side.specs.LineNumbers.{numbers_of}
use Rattle.line_side.specs.MayBe.{MayBe}
use Rattle.line_view.specs.Steps.Viewing.{ViewStands}
use Rattle.line_view.specs.declared.told.TurnCounts.{TurnCounts}
use Rattle.line_view.specs.declared.told.TurnSeen.{TurnSeen}
use Rattle.line_view.proofs.TurnMoving.{seen_is, turn_ends}
use Rattle.line_view.proofs.turns.do_turn.Goals as goal

pub returns-clause-moves : goal.returns-clause-moves
returns-clause-moves g c = λ form first read h.
    let t = c.args.t in
    let now = in_view g.I.Source c.take_frames.new.place in
    let old = c.args.line.now in
    let mid = c.take_frames.new.line in
    let new = c.end_turn-whole.new.self in
    let m = c.take_frames.ensures.moves form first read (subst (λ xs. ViewStands form first (in_view g.I.Source c.args.place.now) read t old c.args.watched.now.items xs) (sym c.requires.none) h) in
    let line = c.end_turn-whole.ensures in
    let stands = line.stands now form first (read ++ m.further) t m.stands.line_is in
    let pieces : mid.pieces ≡ slots_of mid.kind = c.take_frames.ensures.pieces ∙ ap slots_of (sym c.take_frames.ensures.kind) in
    turn_ends form first now read t old mid new c.args.watched.now.items c.take_frames.new.watched.items c.end_each.new.watched.items c.take_frames.new.msi.items c.keep_whole.new.msi.items c.end_turn-whole.result
    (record { ended = c.ended.result; whole = c.end_turn-whole.result; counts = c.counts_between.result })
    m pieces line.pieces line.kind line.frames_taken line.ending line.whole stands (λ available may. line.turn now form first (read ++ m.further) t m.stands.line_is available may) c.end_each.ensures.turn c.keep_whole.ensures
    (λ available may.
    let mid_may = subst (λ e. MayBe form.scrambled e (read ++ m.further) available) line.ending may in
    let before = m.earlier available mid_may in
    let was = subst (λ k. c.counts-was.result ≡ numbers_of form old.reader.ending available t k) c.requires.between (c.counts-was.ensures.line (in_view g.I.Source c.args.place.now) form first read t h.line_is available before) in
    let is = subst (λ k. c.counts.result ≡ numbers_of form new.reader.ending available (t + 1) k) line.pieces (c.counts.ensures.line now form first (read ++ m.further) (t + 1) stands available may) in
    let turn = line.turn now form first (read ++ m.further) t m.stands.line_is available mid_may in
    ap (λ counts. seen c.ended.result c.end_turn-whole.result counts) c.counts_between.ensures ∙ seen_is form available t c.counts-was.result c.counts.result old new c.ended.result c.end_turn-whole.result was is turn c.ended.ensures)
  where
    seen : Bool → Bool → TurnCounts → TurnSeen
    seen ended whole counts = record { ended = ended; whole = whole; counts = counts }
