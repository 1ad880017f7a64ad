use Rattle.std.proofs.Common.{ap, ◌∙◌, sym, cond, Some, None}
use Rattle.line_side.specs.Reader.{ReaderView}
use Rattle.line_side.proofs.Steps.{advance_ahead}
use Rattle.line_side.proofs.reader.LineReader.advance.Goals as goal

pub returns-then-self-clause-advances : goal.returns-then-self-clause-advances
returns-then-self-clause-advances g c = rw c.take_ahead.ensures.taken
    (advance_ahead _ _ c.self.inside.next c.take_ahead.new.self.seen (sym (ap (λ (r : ReaderView). r.ahead) c.self.view_is) ∙ ap (λ b. cond b (Some c.self.inside.next) None) c.if-self.true) c.take_ahead.ensures.seen)
