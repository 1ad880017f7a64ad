-- How many slots a list has, and how high each one is.
use Rattle.std.proofs.Common.{◌≡◌, ℕ, zero, suc, ◌+◌, ◌<◌, ◌≤◌, List, [], ◌∷◌, length, get_or, ap, arith, add-one}
use Rattle.otn_base.specs.SlotList.{IsSlotList}

-- slot k of a rising list, from 0, is k + 1 at least
pub slot_least : (line : ℕ) (slots : List ℕ) (k : ℕ) → IsSlotList line slots → k < length slots → k + 1 ≤ get_or slots k 0
slot_least line slots zero h there = h.low 0 there
slot_least line slots (suc k) h there =
    let before = slot_least line slots k h (omega arith) in
    let next : k + 1 < length slots = omega arith in
    let rises : get_or slots k 0 < get_or slots (k + 1) 0 = h.rising k next in
    let same : get_or slots (k + 1) 0 ≡ get_or slots (suc k) 0 = ap (λ i. get_or slots i 0) (add-one k) in
    omega arith

-- so a list has no more slots than its line
pub few_slots : (line : ℕ) (slots : List ℕ) → IsSlotList line slots → length slots ≤ line
few_slots line [] h = omega arith
few_slots line (slot ∷ slots) h =
    let last = slot_least line (slot ∷ slots) (length slots) h (omega arith) in
    let high = h.high (length slots) (omega arith) in
    omega arith

pub ruleset few = (few_slots)
