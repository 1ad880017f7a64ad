-- The text of a list of slots, as far as it is read.
use Rattle.std.proofs.Common.{◌≡◌, ◌<◌, ◌≤◌, ◌+◌, ◌∙◌, ℕ, zero, suc, List, [], ◌∷◌, ◌++◌, length, get_or, take, drop, ◌≢◌, ◌-◌, refl, sym, ap, subst, arith, length-append, length-drop, add-one}
use Rattle.std.proofs.Math.Seq.{get_or-append_seam, take-length}
use Rattle.otn_base.specs.SlotList.{IsSlotList}
use Rattle.command_words.specs.Words.{digit, slots_text}

-- the digits of slots, each with a comma after it
abbrev pub with_commas : List ℕ → List ℕ
with_commas [] = []
with_commas (slot ∷ slots) = (48 + slot) ∷ 44 ∷ with_commas slots

-- one slot more, and its comma
pub with_commas-more : (done : List ℕ) (slot : ℕ) (rest : List ℕ) → with_commas (done ++ slot ∷ []) ++ rest ≡ with_commas done ++ (48 + slot) ∷ 44 ∷ rest
with_commas-more [] slot rest = refl
with_commas-more (first ∷ done) slot rest = ap (λ xs. (48 + first) ∷ 44 ∷ xs) (with_commas-more done slot rest)

-- the last slot has no comma
pub slots_text-end : (done : List ℕ) (slot : ℕ) → slots_text (done ++ slot ∷ []) ≡ with_commas done ++ digit slot
slots_text-end [] slot = refl
slots_text-end (first ∷ []) slot = refl
slots_text-end (first ∷ second ∷ done) slot = ap (λ xs. (48 + first) ∷ 44 ∷ xs) (slots_text-end (second ∷ done) slot)

-- What is left to read where a text that is read so far is that of slots: the text of the slots that are not read, of
-- which there is one at least.
pub record Left (done rest slots : List ℕ) : Type 0 where
  pub slot : ℕ
  pub more : List ℕ
  pub list : slots ≡ done ++ slot ∷ more
  pub text : rest ≡ slots_text (slot ∷ more)

-- what is left of the text of these slots
pub left_of : (done rest : List ℕ) (slot : ℕ) (slots : List ℕ) → with_commas done ++ rest ≡ slots_text (slot ∷ slots) → Left done rest (slot ∷ slots)
left_of [] rest slot slots e = record { slot = slot; more = slots; list = refl; text = e }
left_of (first ∷ done) rest slot [] e = absurd (let n = ap length e in let bad : ⊥ = omega arith in bad)
left_of (first ∷ done) rest slot (next ∷ slots) e =
    let same : first ≡ slot = let n = ap (λ xs. get_or xs 0 0) e in omega arith in
    let l = left_of done rest next slots (ap (drop 2) e) in
    record { slot = l.slot; more = l.more; list = ap (λ n. n ∷ next ∷ slots) (sym same) ∙ ap (λ xs. first ∷ xs) l.list; text = l.text }

-- a slot of a list is 1 to 8
pub slot_within : (done : List ℕ) (slot : ℕ) (more : List ℕ) → IsSlotList 8 (done ++ slot ∷ more) → (1 ≤ slot) × (slot ≤ 8)
slot_within done slot more h =
    let size = length-append done (slot ∷ more) in
    let there : length done < length (done ++ slot ∷ more) = omega arith in
    let is : get_or (done ++ slot ∷ more) (length done) 0 ≡ slot = get_or-append_seam done slot more 0 in
    let low = h.low (length done) there in
    let high = h.high (length done) there in
    (omega arith, omega arith)

-- slot k of a rising list, from 0, is k + 1 at least
least : (slots : List ℕ) (k : ℕ) → IsSlotList 8 slots → k < length slots → k + 1 ≤ get_or slots k 0
least slots zero h there = h.low 0 there
least slots (suc k) h there =
    let before = least slots k h (omega arith) in
    let next : k + 1 < length slots = omega arith in
    let rises : get_or slots k 0 < get_or slots (k + 1) 0 = h.rising k next in
    let same : get_or slots (k + 1) 0 ≡ get_or slots (suc k) 0 = ap (λ i. get_or slots i 0) (add-one k) in
    omega arith

-- so a list has eight slots at most
pub eight_at_most : (slots : List ℕ) → IsSlotList 8 slots → length slots ≤ 8
eight_at_most [] h = omega arith
eight_at_most (slot ∷ slots) h =
    let last = least (slot ∷ slots) (length slots) h (omega arith) in
    let high = h.high (length slots) (omega arith) in
    omega arith

-- the slot that is read next is 1 to 8, and fewer than eight are read before
slot_list_of : (done : List ℕ) (slot : ℕ) (more slots : List ℕ) → slots ≡ done ++ slot ∷ more → IsSlotList 8 slots → (1 ≤ slot) × (slot ≤ 8) × (length done < 8)
slot_list_of done slot more slots e h =
    let is = subst (IsSlotList 8) e h in
    let within = slot_within done slot more is in
    let few = eight_at_most (done ++ slot ∷ more) is in
    let size = length-append done (slot ∷ more) in
    (within.0, within.1, omega arith)

-- the first digit of the text of slots
first_digit : (slot : ℕ) (more : List ℕ) → take 1 (slots_text (slot ∷ more)) ≡ digit slot
first_digit slot [] = refl
first_digit slot (next ∷ more) = refl

-- the text of more than one slot has a comma after the first digit
comma_after : (slot : ℕ) (more : List ℕ) → 1 < length (slots_text (slot ∷ more)) → get_or (slots_text (slot ∷ more)) 1 0 ≡ 44
comma_after slot [] long = absurd (let bad : ⊥ = omega arith in bad)
comma_after slot (next ∷ more) long = refl

-- what is left of the text of a list of slots
left_in : (text done rest slots : List ℕ) → text ≡ with_commas done ++ rest → text ≡ slots_text slots → IsSlotList 8 slots → Left done rest slots
left_in text done rest [] read e h = absurd (let some = h.taken in let bad : ⊥ = omega arith in bad)
left_in text done rest (slot ∷ slots) read e h = left_of done rest slot slots (sym read ∙ e)

-- no comma where one must be
pub no_comma : (text done rest : List ℕ) → text ≡ with_commas done ++ rest → 1 < length rest → get_or rest 1 0 ≢ 44
    → (slots : List ℕ) → text ≡ slots_text slots → IsSlotList 8 slots → ⊥
no_comma text done rest read long other slots e h =
    let l = left_in text done rest slots read e h in
    let is = comma_after l.slot l.more (subst (λ xs. 1 < length xs) l.text long) in
    other (ap (λ xs. get_or xs 1 0) l.text ∙ is)

-- no digit of a slot where one must be, or eight slots before
pub no_slot : (text done rest first : List ℕ) → text ≡ with_commas done ++ rest → first ≡ take 1 rest → ((n : ℕ) → first ≡ digit n → 1 ≤ n → n ≤ 8 → length done ≡ 8)
    → (slots : List ℕ) → text ≡ slots_text slots → IsSlotList 8 slots → ⊥
no_slot text done rest first read is none slots e h =
    let l = left_in text done rest slots read e h in
    let some = slot_list_of done l.slot l.more slots l.list h in
    let full = none l.slot (is ∙ ap (take 1) l.text ∙ first_digit l.slot l.more) some.0 some.1 in
    let few = some.2 in
    omega arith

-- the same of a text that ends there
pub no_slot_left : (text done rest : List ℕ) → text ≡ with_commas done ++ rest → length rest ≤ 1 → ((n : ℕ) → rest ≡ digit n → 1 ≤ n → n ≤ 8 → length done ≡ 8)
    → (slots : List ℕ) → text ≡ slots_text slots → IsSlotList 8 slots → ⊥
no_slot_left text done [] read short none = no_slot text done [] [] read refl none
no_slot_left text done (a ∷ []) read short none = no_slot text done (a ∷ []) (a ∷ []) read refl none
no_slot_left text done (a ∷ b ∷ rest) read short none = absurd (let bad : ⊥ = omega arith in bad)

-- the text of one slot is that of no other list
only_slot : (slot n : ℕ) (more : List ℕ) → digit n ≡ slots_text (slot ∷ more) → slot ∷ more ≡ n ∷ []
only_slot slot n [] e = let same : slot ≡ n = let d = ap (λ xs. get_or xs 0 0) e in omega arith in ap (λ k. k ∷ []) same
only_slot slot n (next ∷ more) e = absurd (let size = ap length e in let bad : ⊥ = omega arith in bad)

-- the slots of a text that is read whole are those that were read
pub read_slots : (text done rest now : List ℕ) (n : ℕ) → text ≡ with_commas done ++ rest → rest ≡ digit n → now ≡ done ++ n ∷ []
    → (slots : List ℕ) → text ≡ slots_text slots → IsSlotList 8 slots → IsSlotList 8 now
read_slots text done rest now n read last is slots e h =
    let l = left_in text done rest slots read e h in
    let same = l.list ∙ ap (λ xs. done ++ xs) (only_slot l.slot n l.more (sym last ∙ l.text)) ∙ sym is in
    subst (IsSlotList 8) same h

-- and their text is this one
pub read_text : (text done rest now : List ℕ) (n : ℕ) → text ≡ with_commas done ++ rest → rest ≡ digit n → now ≡ done ++ n ∷ [] → text ≡ slots_text now
read_text text done rest now n read last is = read ∙ ap (λ xs. with_commas done ++ xs) last ∙ sym (ap slots_text is ∙ slots_text-end done n)

-- a slot is read, and its comma, and what follows is left
read_next : (text done rest : List ℕ) (n : ℕ) → text ≡ with_commas done ++ rest → take 1 rest ≡ digit n → 1 < length rest → get_or rest 1 0 ≡ 44
    → text ≡ with_commas (done ++ n ∷ []) ++ drop 2 rest
read_next text done [] n read first long comma = absurd (let bad : ⊥ = omega arith in bad)
read_next text done (a ∷ []) n read first long comma = absurd (let bad : ⊥ = omega arith in bad)
read_next text done (a ∷ b ∷ rest) n read first long comma =
    let digit_is : a ≡ 48 + n = ap (λ xs. get_or xs 0 0) first in
    read ∙ ap (λ x. with_commas done ++ x ∷ b ∷ rest) digit_is ∙ ap (λ x. with_commas done ++ (48 + n) ∷ x ∷ rest) comma ∙ sym (with_commas-more done n rest)

-- the same, where what is left is a slice to the end
pub read_more : (text done rest now : List ℕ) (n : ℕ) → text ≡ with_commas done ++ rest → take 1 rest ≡ digit n → 1 < length rest → get_or rest 1 0 ≡ 44
    → now ≡ done ++ n ∷ [] → text ≡ with_commas now ++ take (length rest - 2) (drop 2 rest)
read_more text done rest now n read first long comma is =
    let size : length (drop 2 rest) ≡ length rest - 2 = length-drop 2 rest in
    let all : take (length rest - 2) (drop 2 rest) ≡ drop 2 rest = ap (λ k. take k (drop 2 rest)) (sym size) ∙ take-length (drop 2 rest) in
    read_next text done rest n read first long comma ∙ ap (λ xs. with_commas xs ++ drop 2 rest) (sym is) ∙ ap (λ xs. with_commas now ++ xs) (sym all)
