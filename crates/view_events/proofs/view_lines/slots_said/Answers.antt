use Rattle.std.proofs.Common.{◌∙◌, sym, arith}
use Rattle.number_lists.proofs.NumberLists.{same_list}
use Rattle.view_events.proofs.Reading.{tributary_word}
use Rattle.view_events.proofs.view_lines.slots_said.Goals as goal

pub returns-in-Some-clause-said : goal.returns-in-Some-clause-said
returns-in-Some-clause-said c x h is =
    let list = c.in-Some.ensures.numbers in
    let text = c.word_of.ensures ∙ tributary_word x h c.args.line.now is 5 (omega arith) in
    same_list 33 c.in-Some.slots.items x.slots (omega arith) list.0.some list.0.below h.slots.some h.slots.below (sym list.1 ∙ text)

pub returns-in-None-clause-said : goal.returns-in-None-clause-said
returns-in-None-clause-said c x h is =
    absurd (c.in-None.ensures.none x.slots h.slots (c.word_of.ensures ∙ tributary_word x h c.args.line.now is 5 (omega arith)))
