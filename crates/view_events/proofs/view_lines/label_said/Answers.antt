use Rattle.std.proofs.Common.{◌∙◌, ap, arith}
use Rattle.view_events.specs.EventsOf.{label_by}
use Rattle.std.specs.Fmt.{decimal}
use Rattle.view_events.proofs.Reading.{tributary_word}
use Rattle.view_events.proofs.view_lines.label_said.Goals as goal

pub returns : goal.returns
returns c x h is =
    let line = c.args.line.now in
    let port = c.word_of-port.result.now in
    let slots = c.word_of-slots.result.now in
    c.in_ok-label.ensures ∙ ap (λ w. label_by w port slots) (c.word_of-name.ensures ∙ tributary_word x h line is 1 (omega arith))
    ∙ ap (λ w. label_by x.name w slots) (c.word_of-port.ensures ∙ tributary_word x h line is 3 (omega arith))
    ∙ ap (λ w. label_by x.name (decimal x.port) w) (c.word_of-slots.ensures ∙ tributary_word x h line is 5 (omega arith))
