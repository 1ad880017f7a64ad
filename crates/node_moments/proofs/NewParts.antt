-- Lists that grow by one element: what holds of each, by its number.
use Rattle.std.proofs.Common.{◌≡◌, ◌⊎◌, ℕ, zero, suc, List, [], ◌∷◌, ◌++◌, Some, length, slice_get, arith, refl, ap, inl, inr}

-- an element of a list with one more at its end
last_or : {A : Type 0} (xs : List A) (x y : A) (i : ℕ) → slice_get (xs ++ x ∷ []) i ≡ Some y → (slice_get xs i ≡ Some y) ⊎ ((i ≡ length xs) × (x ≡ y))
last_or [] x y zero e = inr (refl, cc)
last_or [] x y (suc i) e = cc
last_or (z ∷ zs) x y zero e = inl e
last_or (z ∷ zs) x y (suc i) e = elim (last_or zs x y i e) [
  | inl t ↦ inl t
  | inr t ↦ inr (ap suc t.0, t.1)
]

-- what holds of each, and of one more
pub each_more : {A : Type 0} (Holds : ℕ → A → Type 0) (xs : List A) (x : A) (n : ℕ) → length xs ≡ n → ((i : ℕ) (y : A) → slice_get xs i ≡ Some y → Holds i y) → Holds n x
    → (i : ℕ) (y : A) → slice_get (xs ++ x ∷ []) i ≡ Some y → Holds i y
each_more Holds xs x n len each one i y known = elim (last_or xs x y i known) [
  | inl t ↦ each i y t
  | inr t ↦ let at : n ≡ i = omega (arith, len, t.0) in rw (← at, ← t.1) one
]

-- of none
pub each_none : {A : Type 0} (Holds : ℕ → A → Type 0) (xs : List A) → xs ≡ [] → (i : ℕ) (y : A) → slice_get xs i ≡ Some y → Holds i y
each_none Holds xs e i y known = absurd (nothing xs i y e known)
  where
    nothing : {A : Type 0} (xs : List A) (i : ℕ) (y : A) → xs ≡ [] → slice_get xs i ≡ Some y → ⊥
    nothing [] i y e h = cc
    nothing (x ∷ xs) i y e h = cc
