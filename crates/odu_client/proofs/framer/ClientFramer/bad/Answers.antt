use Rattle.std.proofs.Common.{◌≡◌, ap, sym, ◌∙◌}
use Rattle.packet_text.specs.declared.line.Line.TheVariants as line
use Rattle.odu_client.proofs.Totals.{bad_is, no_bad}
use Rattle.odu_client.proofs.framer.ClientFramer.bad.Goals as goal

pub returns-in-Bad : goal.returns-in-Bad
returns-in-Bad c = λ first now read emitted lines died text h may die.
    bad_is first now read emitted lines c.args.self.now died text _ (sym (ap (λ f. f.stream.answer) c.self.view_is) ∙ sym c.answer.ensures ∙ c.in-Bad.is) h may

pub returns-in_default : goal.returns-in_default
returns-in_default c = λ first now read emitted lines died text h may die.
    no_bad first now read emitted lines c.args.self.now died text (λ n e. (let f : c.answer.result ≡ line.Bad n = c.answer.ensures ∙ ap (λ s. s.stream.answer) c.self.view_is ∙ e in c.in_default.not-Bad n f)) h may
