-- Lists of slots rise.
use Rattle.std.proofs.Common.{◌≡◌, ◌≢◌, ℕ, zero, suc, ◌+◌, ◌-◌, ◌<◌, ◌≤◌, ◌⊎◌, inl, inr, List, length, get_or, take, drop, ap, ◌∙◌, arith, length-drop}
use Rattle.std.proofs.lemmas.List.{length-take-le, get_or-take, get_or-drop}
use Rattle.otn_base.specs.SlotList.{IsSlotList}
use Rattle.lane_kernels.specs.SlotPlaces.{IsSlotCount}

order : (i j : ℕ) → (i ≤ j) ⊎ (j < i)
order i j = grind arith

-- so much higher is a later slot of a list
higher_many : (line : ℕ) (slots : List ℕ) → IsSlotList line slots → (p d : ℕ) → p + d < length slots → get_or slots p 0 + d ≤ get_or slots (p + d) 0
higher_many line slots list p zero h =
    let e : get_or slots (p + 0) 0 ≡ get_or slots p 0 = ap (λ n. get_or slots n 0) (let q : p + 0 ≡ p = omega arith in q) in
    omega arith
higher_many line slots list p (suc d) h =
    let a = higher_many line slots list p d (omega arith) in
    let b = list.rising (p + d) (omega arith) in
    let e : get_or slots (p + suc d) 0 ≡ get_or slots (p + d + 1) 0 = ap (λ n. get_or slots n 0) (let q : p + suc d ≡ p + d + 1 = omega arith in q) in
    omega arith

not_lower : (line : ℕ) (slots : List ℕ) → IsSlotList line slots → (p q : ℕ) → p ≤ q → q < length slots → get_or slots p 0 + (q - p) ≤ get_or slots q 0
not_lower line slots list p q h l =
    let a = higher_many line slots list p (q - p) (omega arith) in
    let e : get_or slots (p + (q - p)) 0 ≡ get_or slots q 0 = ap (λ n. get_or slots n 0) (let f : p + (q - p) ≡ q = omega arith in f) in
    omega arith

pub higher : (line : ℕ) (slots : List ℕ) → IsSlotList line slots → (p q : ℕ) → p < q → q < length slots → get_or slots p 0 < get_or slots q 0
higher line slots list p q h l = let a = not_lower line slots list p q (omega arith) l in omega arith

pub stays_high : (line : ℕ) (slots : List ℕ) → IsSlotList line slots → (p q : ℕ) → 17 ≤ get_or slots p 0 → p ≤ q → q < length slots → 17 ≤ get_or slots q 0
stays_high line slots list p q high h l = let a = not_lower line slots list p q h l in omega arith

-- among sixteen numbers stand no more than sixteen slots
few_slots : (line : ℕ) (slots : List ℕ) → IsSlotList line slots → (before a b : ℕ) → b ≤ length slots
    → ((p : ℕ) → a ≤ p → p < b → before + 1 ≤ get_or slots p 0) → ((p : ℕ) → a ≤ p → p < b → get_or slots p 0 ≤ before + 16) → b - a ≤ 16
few_slots line slots list before a b inside low high = go (order (b - a) 16)
  where
    go : (b - a ≤ 16) ⊎ (16 < b - a) → b - a ≤ 16
    go (inl h) = h
    go (inr h) =
        let x = low a (omega arith) (omega arith) in
        let y = high (a + 16) (omega arith) (omega arith) in
        let z = higher_many line slots list a 16 (omega arith) in
        absurd (omega arith)

pub few_low : (slots : List ℕ) → IsSlotList 32 slots → (n : ℕ) → n ≤ length slots → ((p : ℕ) → p < n → get_or slots p 0 ≤ 16) → n ≤ 16
few_low slots list n inside high =
    let f = few_slots 32 slots list 0 0 n inside (λ p a b. let l = list.low p (omega arith) in omega arith) (λ p a b. let h = high p b in omega arith) in
    omega arith

pub few_high : (slots : List ℕ) → IsSlotList 32 slots → (n : ℕ) → n ≤ length slots → ((p : ℕ) → n ≤ p → p < length slots → 17 ≤ get_or slots p 0) → length slots - n ≤ 16
few_high slots list n inside low =
    few_slots 32 slots list 16 n (length slots) (omega arith) (λ p a b. let l = low p a b in omega arith) (λ p a b. let h = list.high p b in omega arith)

pub front_size : (slots : List ℕ) (n : ℕ) → n ≤ length slots → length (take n slots) ≡ n
front_size slots n h = length-take-le n slots h

pub back_size : (slots : List ℕ) (n : ℕ) → n ≤ length slots → length (take (length slots - n) (drop n slots)) ≡ length slots - n
back_size slots n h = length-take-le (length slots - n) (drop n slots) (omega (arith, length-drop n slots))

pub back_slot : (slots : List ℕ) (n p : ℕ) → n + p < length slots → get_or (take (length slots - n) (drop n slots)) p 0 ≡ get_or slots (n + p) 0
back_slot slots n p h = get_or-take (length slots - n) (drop n slots) p 0 (omega arith) ∙ get_or-drop n slots p 0

-- a line that has not 8 slots has 32
pub other_line : (slots : ℕ) → IsSlotCount slots → slots ≢ 8 → slots ≡ 32
other_line slots (inl e) other = absurd (other e)
other_line slots (inr e) other = e

-- each part of a list rises
pub front_rises : (slots : List ℕ) (n : ℕ) → IsSlotList 32 slots → n ≤ length slots → (p q : ℕ) → p < q → q < length (take n slots) → get_or (take n slots) p 0 < get_or (take n slots) q 0
front_rises slots n list h p q l m =
    let size = front_size slots n h in
    let a = get_or-take n slots p 0 (omega arith) in
    let b = get_or-take n slots q 0 (omega arith) in
    let c = higher 32 slots list p q l (omega arith) in
    omega arith

pub back_rises : (slots : List ℕ) (n : ℕ) → IsSlotList 32 slots → n ≤ length slots → (p q : ℕ) → p < q → q < length (take (length slots - n) (drop n slots))
    → get_or (take (length slots - n) (drop n slots)) p 0 < get_or (take (length slots - n) (drop n slots)) q 0
back_rises slots n list h p q l m =
    let size = back_size slots n h in
    let a = back_slot slots n p (omega arith) in
    let b = back_slot slots n q (omega arith) in
    let c = higher 32 slots list (n + p) (n + q) (omega arith) (omega arith) in
    omega arith
