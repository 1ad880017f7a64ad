use Rattle.std.proofs.Common.{ap, ◌∙◌, refl, ◌+◌}
use Rattle.line_side.specs.Reader.{ReaderView}
use Rattle.line_side.specs.Steps.Reader.{ending_after, left_after}
use Rattle.otn_base.specs.Counts.{saturated}
use Rattle.line_side.proofs.Steps.{advance_over, advance_short, advance_whole, same_view, not_open, is_opened, not_full, is_full}
use Rattle.line_side.proofs.reader.LineReader.read_next.Goals as goal

pub returns-then-not-is_open-clause-advances : goal.returns-then-not-is_open-clause-advances
returns-then-not-is_open-clause-advances g c = advance_over _ _ c.requires (not_open _ _ c.if-not-is_open.true c.is_open.ensures)

pub returns-then-not-has_come-clause-advances : goal.returns-then-not-has_come-clause-advances
returns-then-not-has_come-clause-advances g c =
    let v = c.self.view_is in
    let read = rw (ap (λ (r : ReaderView). r.scrambled) v) at c.read_frame-reading.ensures in
    let e = c.has_come.ensures in
    advance_short c.read_frame-reading.result _ _ _ c.read_frame-reading.new.frame _ c.requires (is_opened _ _ c.if-not-is_open.false c.is_open.ensures) (not_full _ _ c.if-not-has_come.true e.whole) read
    (same_view _ _ (ap (λ (r : ReaderView). r.scrambled) v) refl (ap (λ (r : ReaderView). r.ahead) v) (e.ending ∙ ap (λ (r : ReaderView). ending_after c.read_frame-reading.result r.ending) v)
    (ap (λ (r : ReaderView). r.frames) v) (e.rest ∙ ap (λ (r : ReaderView). left_after c.read_frame-reading.result r.rest) v) (ap (λ (r : ReaderView). r.seen) v))

pub returns-clause-advances : goal.returns-clause-advances
returns-clause-advances g c =
    let v = c.self.view_is in
    let read = rw (ap (λ (r : ReaderView). r.scrambled) v) at c.read_frame-reading.ensures in
    let e = c.has_come.ensures in
    let full = is_full _ _ c.if-not-has_come.false e.whole in
    let sees = rw (ap (λ (r : ReaderView). r.seen) v) at c.take.ensures in
    advance_whole c.read_frame-reading.result _ _ _ c.read_frame-reading.new.frame _ c.take.new.self sees c.requires (is_opened _ _ c.if-not-is_open.false c.is_open.ensures) full read
    (same_view _ _ (ap (λ (r : ReaderView). r.scrambled) v) refl (ap (λ (r : ReaderView). r.ahead) v ∙ c.requires) (e.ending ∙ ap (λ r. ending_after r c.self.inside.ending) full ∙ ap (λ (r : ReaderView). r.ending) v)
    (c.saturating_add-self-inside.ensures ∙ ap (λ (r : ReaderView). saturated (r.frames + 1)) v) (e.rest ∙ ap (λ r. left_after r c.self.inside.rest) full ∙ ap (λ (r : ReaderView). r.rest) v) refl)
