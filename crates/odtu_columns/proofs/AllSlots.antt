-- The slots of a list rise, so those of a list of all slots are 1, 2, 3 and so on.
use Rattle.std.proofs.Common.{◌≡◌, ◌≢◌, ℕ, zero, suc, ◌+◌, ◌-◌, ◌*◌, ◌%◌, ◌<◌, ◌≤◌, List, length, get_or, ap, sym, arith}
use Rattle.otn_base.specs.SlotList.{IsSlotList}
use Rattle.otn_base.proofs.RisingSlots.{slot_least}

-- so much higher at least is a later slot
higher : (line : ℕ) (slots : List ℕ) → IsSlotList line slots → (i d : ℕ) → i + d < length slots → get_or slots i 0 + d ≤ get_or slots (i + d) 0
higher line slots list i zero h =
    let e : get_or slots (i + 0) 0 ≡ get_or slots i 0 = ap (λ n. get_or slots n 0) (let q : i + 0 ≡ i = omega arith in q) in
    omega arith
higher line slots list i (suc d) h =
    let a = higher line slots list i d (omega arith) in
    let b = list.rising (i + d) (omega arith) in
    let e : get_or slots (i + suc d) 0 ≡ get_or slots (i + d + 1) 0 = ap (λ n. get_or slots n 0) (let q : i + suc d ≡ i + d + 1 = omega arith in q) in
    omega arith

pub rises : (line : ℕ) (slots : List ℕ) → IsSlotList line slots → (i j : ℕ) → i < j → j < length slots → get_or slots i 0 < get_or slots j 0
rises line slots list i j less inside =
    let a = higher line slots list i (j - i) (omega arith) in
    let e : get_or slots (i + (j - i)) 0 ≡ get_or slots j 0 = ap (λ n. get_or slots n 0) (let q : i + (j - i) ≡ j = omega arith in q) in
    omega arith

pub all_slots : (line : ℕ) (slots : List ℕ) → IsSlotList line slots → length slots ≡ line → (i : ℕ) → i < line → get_or slots i 0 ≡ i + 1
all_slots line slots list all i h =
    let least = slot_least line slots i list (omega arith) in
    let a = higher line slots list i (line - 1 - i) (omega arith) in
    let e : get_or slots (i + (line - 1 - i)) 0 ≡ get_or slots (line - 1) 0 = ap (λ n. get_or slots n 0) (let q : i + (line - 1 - i) ≡ line - 1 = omega arith in q) in
    let last = list.high (line - 1) (omega arith) in
    omega arith

-- so the byte of a slot among those of all slots stands in the slot's own column
pub whole_place : (line : ℕ) (slots : List ℕ) → IsSlotList line slots → length slots ≡ line → (j p : ℕ) → p < length slots → length slots * j + p ≡ line * j + (get_or slots p 0 - 1)
whole_place line slots list all j p h =
    let slot = all_slots line slots list all p (omega arith) in
    let many : length slots * j ≡ line * j = ap (λ k. k * j) all in
    omega arith

-- and each column is one of a slot
pub whole_columns : (line : ℕ) (slots : List ℕ) → IsSlotList line slots → length slots ≡ line → 0 < line → (n : ℕ) → ((i : ℕ) → i < length slots → n % line + 1 ≢ get_or slots i 0) → ⊥
whole_columns line slots list all some n none =
    let below : n % line < line = omega arith in
    none (n % line) (omega arith) (sym (all_slots line slots list all (n % line) below))
