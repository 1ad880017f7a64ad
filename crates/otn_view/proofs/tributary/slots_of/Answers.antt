use Rattle.std.proofs.Common.{◌≡◌, ◌∙◌, List, ℕ, ap, sym, rules}
use Rattle.otn_base.specs.LineSlots.{slots_of}
use Rattle.otn_base.specs.SlotList.{IsSlotList}
use Rattle.line_view.specs.ViewText.{slots_text}
use Rattle.otn_view.proofs.SlotTexts.{is_number_list, list_read, slots_joined}
use Rattle.otn_view.proofs.tributary.slots_of.Goals as goal

pub returns-in_err-list-clause-none : goal.returns-in_err-list-clause-none
returns-in_err-list-clause-none c =
    let none : (slots : List ℕ) → IsSlotList (slots_of c.args.kind) slots → c.args.text.now ≡ slots_text slots → ⊥
    = λ slots h e. c.in_err-list.ensures.none slots (is_number_list c.args.kind slots h) (e ∙ slots_joined slots) in
    search rules

pub returns-clause-slots : goal.returns-clause-slots
returns-clause-slots c =
    let list = c.in_ok-list.list.items in
    let text : c.args.text.now ≡ slots_text c.as_slice.result.now
    = c.in_ok-list.ensures.numbers.1 ∙ sym (slots_joined list) ∙ ap slots_text (sym c.as_slice.ensures.value) in
    search rules

pub returns-clause-none : goal.returns-clause-none
returns-clause-none c =
    let numbers = c.in_ok-list.ensures.numbers in
    let read = list_read c.args.kind c.args.text.now c.in_ok-list.list.items c.as_slice.result.now numbers.0 numbers.1 c.as_slice.ensures.value in
    search rules
