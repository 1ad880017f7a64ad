use Rattle.std.proofs.Common.{◌≡◌, ap, sym, ◌∙◌}
use Rattle.packet_text.specs.declared.line.Line.TheVariants as line
use Rattle.odu_client.proofs.Totals.{spent_end, not_spent}
use Rattle.odu_client.proofs.framer.ClientFramer.spent.Goals as goal

pub returns-in-End : goal.returns-in-End
returns-in-End c = λ first now read emitted lines died text h may die.
    spent_end first now read emitted lines c.args.self.now died text c.is_emitted.result (sym (ap (λ f. f.stream.answer) c.self.view_is) ∙ sym c.answer.ensures ∙ c.in-End.is) c.is_emitted.ensures.yes c.is_emitted.ensures.not_yet h may die

pub returns-in_default : goal.returns-in_default
returns-in_default c = λ first now read emitted lines died text h may die.
    not_spent first now read emitted lines c.args.self.now died text (λ e. (let f : c.answer.result ≡ line.End = c.answer.ensures ∙ ap (λ s. s.stream.answer) c.self.view_is ∙ e in c.in_default.not-End f)) h may die
