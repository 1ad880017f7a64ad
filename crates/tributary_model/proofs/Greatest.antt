-- The greatest of some slots, which rise, is the last.
use Rattle.std.proofs.Common.{◌≡◌, ℕ, suc, ◌+◌, ◌-◌, ◌<◌, ◌≤◌, List, [], ◌∷◌, Some, length, get_or, subst, arith}
use Rattle.std.specs.Prelude.{slice_get}
use Rattle.std.specs.List.Sorted.{IsStrictlyIncreasing}
use Rattle.otn_base.specs.SlotList.{IsSlotList}
use Rattle.tributary_model.specs.Places.{greatest}

-- rising numbers without their first rise
pub rising_rest : (x : ℕ) (xs : List ℕ) → IsStrictlyIncreasing (x ∷ xs) → IsStrictlyIncreasing xs
rising_rest x xs h = λ k less. subst (λ i. get_or xs k 0 < get_or (x ∷ xs) i 0) (let e : suc k + 1 ≡ suc (k + 1) = omega arith in e) (h (suc k) (omega arith))

-- their first is below the second
pub rising_head : (x y : ℕ) (xs : List ℕ) → IsStrictlyIncreasing (x ∷ y ∷ xs) → x < y
rising_head x y xs h = h 0 (omega arith)

greatest_last : (xs : List ℕ) (r : ℕ) → IsStrictlyIncreasing xs → slice_get xs (length xs - 1) ≡ Some r → greatest xs ≡ r
greatest_last [] r h e = cc
greatest_last (x ∷ []) r h e = let same : x ≡ r = cc in omega arith
greatest_last (x ∷ y ∷ xs) r h e =
    let less = rising_head x y xs h in
    let place : slice_get (y ∷ xs) (length (y ∷ xs) - 1) ≡ Some r = subst (λ i. slice_get (x ∷ y ∷ xs) i ≡ Some r) (let f : length (x ∷ y ∷ xs) - 1 ≡ suc (length (y ∷ xs) - 1) = omega arith in f) e in
    let rest = greatest_last (y ∷ xs) r (rising_rest x (y ∷ xs) h) place in
    let most : y ≤ greatest (y ∷ xs) = omega arith in
    omega arith

-- the greatest slot of a list of slots of any line
pub greatest_is_last : (line : ℕ) (xs : List ℕ) (r : ℕ) → IsSlotList line xs → slice_get xs (length xs - 1) ≡ Some r → greatest xs ≡ r
greatest_is_last line xs r h e = greatest_last xs r h.rising e
