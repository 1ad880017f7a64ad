use Rattle.std.proofs.Common.{ap, ◌∙◌, refl}
use Rattle.line_side.specs.Reader.{ReaderView}
use Rattle.line_side.specs.Steps.Reader.{ending_after, left_after}
use Rattle.line_side.proofs.Steps.{look_over, look_by, not_open, is_opened}
use Rattle.line_side.proofs.reader.LineReader.look_ahead.Goals as goal

pub returns-then-not-is_open-clause-looks : goal.returns-then-not-is_open-clause-looks
returns-then-not-is_open-clause-looks g c = look_over _ _ c.requires (not_open _ _ c.if-not-is_open.true c.is_open.ensures)

pub returns-clause-looks : goal.returns-clause-looks
returns-clause-looks g c =
    let v = c.self.view_is in
    let read = rw (ap (λ (r : ReaderView). r.scrambled) v) at c.read_frame-reading.ensures in
    let e = c.has_come-self-inside.ensures in
    look_by _ _ _ _ _ c.read_frame-reading.new.frame _ e.whole c.requires (is_opened _ _ c.if-not-is_open.false c.is_open.ensures) read
    (ap (λ (r : ReaderView). r.scrambled) v) (ap (λ (r : ReaderView). r.hand) v) refl (e.ending ∙ ap (λ (r : ReaderView). ending_after c.read_frame-reading.result r.ending) v) (ap (λ (r : ReaderView). r.frames) v)
    (e.rest ∙ ap (λ (r : ReaderView). left_after c.read_frame-reading.result r.rest) v) (ap (λ (r : ReaderView). r.seen) v)
