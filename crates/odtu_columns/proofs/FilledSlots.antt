-- The bytes of the slots of a frame, of which some are filled.
use Rattle.std.proofs.Common.{◌≡◌, ◌≢◌, ◌⊎◌, inl, inr, ℕ, zero, suc, ◌+◌, ◌-◌, ◌*◌, ◌/◌, ◌<◌, ◌≤◌, Bool, true, false, cond, List, [], ◌∷◌, length, get_or, ap, sym, subst, ◌∙◌, refl, arith}
use Rattle.std.proofs.Math.ListN.{set, get_or-eq_default}
use Rattle.std.proofs.lemmas.List.{get_or-set_same, get_or-set_other, ext_get_or}
use Rattle.std.proofs.lemmas.List.FromFn.{length-map-range_with_len, get_or-map-range_with_len}
use Rattle.odtu_columns.specs.BySlots.{filled_byte, filled_slots}

pub length-filled_slots : (filled : List Bool) (bytes : List ℕ) → length (filled_slots filled bytes) ≡ 15232
unfolding filled_slots
length-filled_slots filled bytes = length-map-range_with_len (filled_byte filled bytes) 0 15232

-- a byte is 0 where its slot is not filled
pub seen : (filled : List Bool) (bytes : List ℕ) (n : ℕ) → n < 15232 → get_or (filled_slots filled bytes) n 0 ≡ cond (get_or filled (n / 1904) false) (get_or bytes n 0) 0
unfolding filled_slots
seen filled bytes n h = get_or-map-range_with_len (filled_byte filled bytes) 0 15232 n n 0 h (omega arith)

past : (filled : List Bool) (bytes : List ℕ) (n : ℕ) → 15232 ≤ n → get_or (filled_slots filled bytes) n 0 ≡ 0
past filled bytes n h = get_or-eq_default (filled_slots filled bytes) 0 (subst (λ k. k ≤ n) (sym (length-filled_slots filled bytes)) h)

order : (n m : ℕ) → (n < m) ⊎ (m ≤ n)
order n m = grind arith

-- ---- all slots, or none

abbrev pub full : List Bool
full = true ∷ true ∷ true ∷ true ∷ true ∷ true ∷ true ∷ true ∷ []

abbrev pub empty : List Bool
empty = false ∷ false ∷ false ∷ false ∷ false ∷ false ∷ false ∷ false ∷ []

in_full : (k : ℕ) → k < 8 → get_or full k false ≡ true
in_full zero h = refl
in_full (suc zero) h = refl
in_full (suc (suc zero)) h = refl
in_full (suc (suc (suc zero))) h = refl
in_full (suc (suc (suc (suc zero)))) h = refl
in_full (suc (suc (suc (suc (suc zero))))) h = refl
in_full (suc (suc (suc (suc (suc (suc zero)))))) h = refl
in_full (suc (suc (suc (suc (suc (suc (suc zero))))))) h = refl
in_full (suc (suc (suc (suc (suc (suc (suc (suc k)))))))) h = absurd (omega arith)

in_empty : (k : ℕ) → k < 8 → get_or empty k false ≡ false
in_empty zero h = refl
in_empty (suc zero) h = refl
in_empty (suc (suc zero)) h = refl
in_empty (suc (suc (suc zero))) h = refl
in_empty (suc (suc (suc (suc zero)))) h = refl
in_empty (suc (suc (suc (suc (suc zero))))) h = refl
in_empty (suc (suc (suc (suc (suc (suc zero)))))) h = refl
in_empty (suc (suc (suc (suc (suc (suc (suc zero))))))) h = refl
in_empty (suc (suc (suc (suc (suc (suc (suc (suc k)))))))) h = absurd (omega arith)

pub full_slots : (bytes : List ℕ) (n : ℕ) → n < 15232 → get_or (filled_slots full bytes) n 0 ≡ get_or bytes n 0
full_slots bytes n h = seen full bytes n h ∙ ap (λ b. cond b (get_or bytes n 0) 0) (in_full (n / 1904) (omega arith))

pub empty_slots : (bytes : List ℕ) (n : ℕ) → get_or (filled_slots empty bytes) n 0 ≡ 0
empty_slots bytes n = go (order n 15232)
  where
    go : (n < 15232) ⊎ (15232 ≤ n) → get_or (filled_slots empty bytes) n 0 ≡ 0
    go (inl h) = seen empty bytes n h ∙ ap (λ b. cond b (get_or bytes n 0) 0) (in_empty (n / 1904) (omega arith))
    go (inr h) = past empty bytes n h

-- slots of which the others were cleared are the same
pub completed : (filled : List Bool) (bytes now : List ℕ) → ((n : ℕ) → n < 15232 → get_or now n 0 ≡ cond (get_or filled (n / 1904) false) (get_or bytes n 0) 0) → filled_slots full now ≡ filled_slots filled bytes
completed filled bytes now is = ext_get_or 0 (filled_slots full now) (filled_slots filled bytes) (length-filled_slots full now ∙ sym (length-filled_slots filled bytes)) (λ n h.
    let inside : n < 15232 = subst (λ m. n < m) (length-filled_slots full now) h in
    full_slots now n inside ∙ is n inside ∙ sym (seen filled bytes n inside))

-- ---- one slot more is filled

-- its own bytes
pub put_here : (k n : ℕ) (filled : List Bool) (new : List ℕ) → 1 ≤ k → k ≤ 8 → length filled ≡ 8 → 1904 * (k - 1) ≤ n → n < 1904 * (k - 1) + 1904
    → get_or (filled_slots (set filled (k - 1) true) new) n 0 ≡ get_or new n 0
put_here k n filled new low high all first last =
    let own : n / 1904 ≡ k - 1 = omega arith in
    seen (set filled (k - 1) true) new n (omega arith)
    ∙ ap (λ m. cond (get_or (set filled (k - 1) true) m false) (get_or new n 0) 0) own
    ∙ ap (λ b. cond b (get_or new n 0) 0) (get_or-set_same filled (k - 1) true false (omega arith))

-- those of the others
pub put_beside : (k n : ℕ) (filled : List Bool) (old new : List ℕ) → 1 ≤ k → (n < 1904 * (k - 1)) ⊎ (1904 * (k - 1) + 1904 ≤ n) → get_or new n 0 ≡ get_or old n 0
    → get_or (filled_slots (set filled (k - 1) true) new) n 0 ≡ get_or (filled_slots filled old) n 0
put_beside k n filled old new low out same = go (order n 15232)
  where
    other : (n < 1904 * (k - 1)) ⊎ (1904 * (k - 1) + 1904 ≤ n) → n / 1904 ≢ k - 1
    other (inl h) = λ e. omega arith
    other (inr h) = λ e. omega arith

    go : (n < 15232) ⊎ (15232 ≤ n) → get_or (filled_slots (set filled (k - 1) true) new) n 0 ≡ get_or (filled_slots filled old) n 0
    go (inl h) =
        seen (set filled (k - 1) true) new n h
        ∙ ap (λ b. cond b (get_or new n 0) 0) (get_or-set_other filled (k - 1) (n / 1904) true false (other out))
        ∙ ap (λ byte. cond (get_or filled (n / 1904) false) byte 0) same
        ∙ sym (seen filled old n h)
    go (inr h) = past (set filled (k - 1) true) new n h ∙ sym (past filled old n h)

-- a byte of its own that stays, where it was cleared before if it was not filled
stays : (k n : ℕ) (filled : List Bool) (old new : List ℕ) → 1 ≤ k → k ≤ 8 → length filled ≡ 8 → 1904 * (k - 1) ≤ n → n < 1904 * (k - 1) + 1904
    → get_or new n 0 ≡ cond (get_or filled (k - 1) false) (get_or old n 0) 0
    → get_or (filled_slots (set filled (k - 1) true) new) n 0 ≡ get_or (filled_slots filled old) n 0
stays k n filled old new low high all first last same =
    let own : n / 1904 ≡ k - 1 = omega arith in
    put_here k n filled new low high all first last ∙ same
    ∙ sym (ap (λ m. cond (get_or filled m false) (get_or old n 0) 0) own)
    ∙ sym (seen filled old n (omega arith))

where_is : (k n : ℕ) → ((n < 1904 * (k - 1)) ⊎ (1904 * (k - 1) + 1904 ≤ n)) ⊎ ((1904 * (k - 1) ≤ n) × (n < 1904 * (k - 1) + 1904))
where_is k n = grind arith

pub put_others : (k n : ℕ) (filled : List Bool) (old mid new : List ℕ) → 1 ≤ k → k ≤ 8 → length filled ≡ 8
    → ((n : ℕ) → 1904 * (k - 1) ≤ n → n < 1904 * (k - 1) + 1904 → get_or mid n 0 ≡ cond (get_or filled (k - 1) false) (get_or old n 0) 0)
    → ((n : ℕ) → (n < 1904 * (k - 1)) ⊎ (1904 * (k - 1) + 1904 ≤ n) → get_or mid n 0 ≡ get_or old n 0)
    → get_or new n 0 ≡ get_or mid n 0
    → get_or (filled_slots (set filled (k - 1) true) new) n 0 ≡ get_or (filled_slots filled old) n 0
put_others k n filled old mid new low high all here others same = go (where_is k n)
  where
    go : ((n < 1904 * (k - 1)) ⊎ (1904 * (k - 1) + 1904 ≤ n)) ⊎ ((1904 * (k - 1) ≤ n) × (n < 1904 * (k - 1) + 1904)) → get_or (filled_slots (set filled (k - 1) true) new) n 0 ≡ get_or (filled_slots filled old) n 0
    go (inl out) = put_beside k n filled old new low out (same ∙ others n out)
    go (inr own) = stays k n filled old new low high all own.0 own.1 (same ∙ here n own.0 own.1)

-- ---- one slot more is cleared

pub more_cleared : (k : ℕ) (filled : List Bool) (bytes before now : List ℕ)
    → ((n : ℕ) → 1904 * (k + 1 - 1) ≤ n → n < 1904 * (k + 1 - 1) + 1904 → get_or now n 0 ≡ cond (get_or filled k false) (get_or before n 0) 0)
    → ((n : ℕ) → (n < 1904 * (k + 1 - 1)) ⊎ (1904 * (k + 1 - 1) + 1904 ≤ n) → get_or now n 0 ≡ get_or before n 0)
    → ((n : ℕ) → n < 1904 * k → get_or before n 0 ≡ cond (get_or filled (n / 1904) false) (get_or bytes n 0) 0)
    → ((n : ℕ) → 1904 * k ≤ n → get_or before n 0 ≡ get_or bytes n 0)
    → (n : ℕ) → n < 1904 * (k + 1) → get_or now n 0 ≡ cond (get_or filled (n / 1904) false) (get_or bytes n 0) 0
more_cleared k filled bytes before now here others done rest n below = go (order n (1904 * k))
  where
    go : (n < 1904 * k) ⊎ (1904 * k ≤ n) → get_or now n 0 ≡ cond (get_or filled (n / 1904) false) (get_or bytes n 0) 0
    go (inl h) = others n (inl (omega arith)) ∙ done n h
    go (inr h) =
        let own : n / 1904 ≡ k = omega arith in
        here n (omega arith) (omega arith)
        ∙ ap (λ byte. cond (get_or filled k false) byte 0) (rest n h)
        ∙ sym (ap (λ m. cond (get_or filled m false) (get_or bytes n 0) 0) own)
