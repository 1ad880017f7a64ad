use Rattle.std.proofs.Common.{rules, take, refl, ◌∙◌}
use Rattle.command_words.proofs.SlotTexts.{no_comma, no_slot, no_slot_left, read_slots, read_text, read_more}
use Rattle.command_words.proofs.words.slot_digits.Goals as goal

pub returns-then-rest-ne44-clause-none : goal.returns-then-rest-ne44-clause-none
returns-then-rest-ne44-clause-none c =
    no_comma c.args.text.now c.loop-rest.slots.items c.loop-rest.rest.now c.loop-rest.invariant c.loop-rest-test.true c.if-rest-ne44.true

pub returns-in_err-push_digit-clause-none : goal.returns-in_err-push_digit-clause-none
returns-in_err-push_digit-clause-none c =
    let none = c.in_err-push_digit.ensures.none in
    let left = no_slot c.args.text.now c.loop-rest.slots.items c.loop-rest.rest.now (take 1 c.loop-rest.rest.now) c.loop-rest.invariant refl none in
    search rules

pub loop-rest-preserved : goal.loop-rest-preserved
loop-rest-preserved c =
    let pushed = c.in_ok-push_digit.ensures.pushed in
    read_more c.args.text.now c.loop-rest.slots.items c.loop-rest.rest.now c.push_digit.new.slots.items pushed.0 c.loop-rest.invariant pushed.1
    c.loop-rest-test.true c.if-rest-ne44.false pushed.2

pub returns-in_err-push_digit-2-clause-none : goal.returns-in_err-push_digit-2-clause-none
returns-in_err-push_digit-2-clause-none c =
    let none = c.in_err-push_digit-2.ensures.none in
    let left = no_slot_left c.args.text.now c.loop-rest.slots.items c.loop-rest.rest.now c.loop-rest.invariant c.loop-rest-test.false none in
    search rules

pub returns-clause-slots : goal.returns-clause-slots
returns-clause-slots c =
    let pushed = c.in_ok-push_digit-2.ensures.pushed in
    let same = c.as_slice.ensures.value ∙ pushed.2 in
    let text = read_text c.args.text.now c.loop-rest.slots.items c.loop-rest.rest.now c.as_slice.result.now pushed.0 c.loop-rest.invariant pushed.1 same in
    search rules

pub returns-clause-none : goal.returns-clause-none
returns-clause-none c =
    let pushed = c.in_ok-push_digit-2.ensures.pushed in
    let same = c.as_slice.ensures.value ∙ pushed.2 in
    let read = read_slots c.args.text.now c.loop-rest.slots.items c.loop-rest.rest.now c.as_slice.result.now pushed.0 c.loop-rest.invariant pushed.1 same in
    search rules
