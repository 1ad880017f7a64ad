-- The text of a list of slots.
use Rattle.std.proofs.Common.{◌≡◌, ◌<◌, ◌≤◌, ◌∙◌, ℕ, List, [], ◌∷◌, ◌++◌, refl, sym, ap, subst, arith, append-nil}
use Rattle.std.specs.Fmt.{decimal}
use Rattle.std.proofs.lemmas.List.Elements.{All-from_get_or}
use Rattle.number_lists.specs.NumberLists.{IsNumberList, numbers_text}
use Rattle.number_lists.proofs.NumberLists.{same_list}
use Rattle.otn_base.specs.LineSlots.{slots_of}
use Rattle.otn_base.specs.SlotList.{IsSlotList}
use Rattle.otn_base.specs.declared.line_kind.LineKind.{LineKind}
use Rattle.otn_base.specs.declared.line_kind.LineKind.TheVariants.{Otu2, Otu3}
use Rattle.otn_base.proofs.RisingSlots.{few_slots}
use Rattle.line_view.specs.ViewText.{slots_text}

-- a line has 32 slots at most
pub most_slots : (kind : LineKind) → slots_of kind ≤ 32
most_slots Otu2 = omega arith
most_slots Otu3 = omega arith

-- it is the text of the numbers of the slots
pub slots_joined : (slots : List ℕ) → slots_text slots ≡ numbers_text slots
slots_joined [] = refl
slots_joined (slot ∷ []) = append-nil (decimal slot)
slots_joined (slot ∷ next ∷ slots) = ap (λ rest. decimal slot ++ 44 ∷ rest) (slots_joined (next ∷ slots))

-- a list of slots is one of numbers below 33
pub is_number_list : (kind : LineKind) (slots : List ℕ) → IsSlotList (slots_of kind) slots → IsNumberList 33 32 slots
is_number_list kind slots h = record {
  some = h.taken;
  few = (let few = few_slots (slots_of kind) slots h in omega (arith, few, most_slots kind));
  below = All-from_get_or (λ n. n < 33) slots 0 (λ i less. omega (arith, h.high i less, most_slots kind));
}

-- where a text is that of numbers and of slots, the numbers are those slots
pub list_read : (kind : LineKind) (text list now : List ℕ) → IsNumberList 33 32 list → text ≡ numbers_text list → now ≡ list → (slots : List ℕ) → IsSlotList (slots_of kind) slots
    → text ≡ slots_text slots → IsSlotList (slots_of kind) now
list_read kind text list now read is same slots h e =
    let n = is_number_list kind slots h in
    subst (IsSlotList (slots_of kind))
    (same_list 33 slots list (omega arith) n.some n.below read.some read.below (sym (slots_joined slots) ∙ sym e ∙ is) ∙ sym same) h
