use Rattle.std.proofs.Common.{◌≡◌, ◌∙◌, sym, rules}
use Rattle.std.specs.Prelude.{codes}
use Rattle.view_events.proofs.Spelling.{decimal_no_mark}
use Rattle.view_events.proofs.view_lines.pair_number.Goals as goal

pub returns-then-eq-clause-number : goal.returns-then-eq-clause-number
returns-then-eq-clause-number c number few is =
    let same : c.word_of-word.result.now ≡ codes "-" = search rules in
    absurd (decimal_no_mark number few (sym is ∙ (sym c.word_of-word.ensures ∙ same)))
