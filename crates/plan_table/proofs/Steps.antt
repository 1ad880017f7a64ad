-- The steps of loops that go through a list by an index.
use Rattle.std.proofs.Common.{◌≡◌, ℕ, ◌+◌, ◌≤◌, ℤ, ◌<ℤ◌, ◌≤ℤ◌, Bool, true, false, List, [], ◌∷◌, drop, length, Some, slice_get, refl, ap, ◌∙◌, sym, arith, zero, suc}
use Rattle.std.proofs.lemmas.List.{at_drop_more, at_drop_all}
use Rattle.std.proofs.lemmas.Option.{slice_get_within, get_or_from_slice_get}
use Rattle.std.proofs.lemmas.Int.{ints}
use Rattle.std.specs.List.{list_all, list_any}
use Rattle.std.specs.Prelude.{int_lt}
use Rattle.plan_table.specs.NumberTests.{rises}

-- ---- one element

-- a function of the rest of a list, at a known element
pub step : {A Y : Type 0} (F : List A → Y) (xs : List A) (i : ℕ) (x : A) → slice_get xs i ≡ Some x → F (drop i xs) ≡ F (x ∷ drop (i + 1) xs)
step F xs i x known = at_drop_more F xs i x (slice_get_within xs i x known) ∙ ap (λ y. F (y ∷ drop (i + 1) xs)) (get_or_from_slice_get xs i x x known)

-- ---- a test of all, and of any

pub all_go : {A : Type 0} (p : A → Bool) (xs : List A) (i : ℕ) (x : A) → slice_get xs i ≡ Some x → p x ≡ true → list_all p (drop i xs) ≡ list_all p (drop (i + 1) xs)
all_go p xs i x known holds = step (list_all p) xs i x known ∙ rw holds

pub all_stop : {A : Type 0} (p : A → Bool) (xs : List A) (i : ℕ) (x : A) → slice_get xs i ≡ Some x → p x ≡ false → list_all p (drop i xs) ≡ false
all_stop p xs i x known fails = step (list_all p) xs i x known ∙ rw fails

pub all_done : {A : Type 0} (p : A → Bool) (xs : List A) (i : ℕ) → length xs ≤ i → list_all p (drop i xs) ≡ true
all_done p xs i end = at_drop_all (list_all p) xs i end

pub any_go : {A : Type 0} (p : A → Bool) (xs : List A) (i : ℕ) (x : A) → slice_get xs i ≡ Some x → p x ≡ false → list_any p (drop i xs) ≡ list_any p (drop (i + 1) xs)
any_go p xs i x known fails = step (list_any p) xs i x known ∙ rw fails

pub any_stop : {A : Type 0} (p : A → Bool) (xs : List A) (i : ℕ) (x : A) → slice_get xs i ≡ Some x → p x ≡ true → list_any p (drop i xs) ≡ true
any_stop p xs i x known holds = step (list_any p) xs i x known ∙ rw holds

pub any_done : {A : Type 0} (p : A → Bool) (xs : List A) (i : ℕ) → length xs ≤ i → list_any p (drop i xs) ≡ false
any_done p xs i end = at_drop_all (list_any p) xs i end

pub ruleset alls = (all_go, all_stop, all_done)

pub ruleset anys = (any_go, any_stop, any_done)

-- ---- a rising list

lt_true : (x y : ℤ) → x <ℤ y → int_lt x y ≡ true
lt_true x y h = grind (arith, ints)

lt_false : (x y : ℤ) → y ≤ℤ x → int_lt x y ≡ false
lt_false x y h = grind (arith, ints)

two : {Y : Type 0} (F : List ℤ → Y) (xs : List ℤ) (j i : ℕ) (x y : ℤ) → i ≡ j + 1 → slice_get xs j ≡ Some x → slice_get xs i ≡ Some y → F (drop j xs) ≡ F (x ∷ y ∷ drop (i + 1) xs)
two F xs j i x y after known known' = step F xs j x known ∙ ap (λ k. F (x ∷ drop k xs)) (sym after) ∙ step (λ rest. F (x ∷ rest)) xs i y known'

pub rises_go : (xs : List ℤ) (j i : ℕ) (x y : ℤ) → i ≡ j + 1 → slice_get xs j ≡ Some x → slice_get xs i ≡ Some y → x <ℤ y → rises (drop j xs) ≡ rises (drop i xs)
rises_go xs j i x y after known known' less =
    two rises xs j i x y after known known' ∙ (rw (lt_true x y less)) ∙ sym (step rises xs i y known')

pub rises_stop : (xs : List ℤ) (j i : ℕ) (x y : ℤ) → i ≡ j + 1 → slice_get xs j ≡ Some x → slice_get xs i ≡ Some y → y ≤ℤ x → rises (drop j xs) ≡ false
rises_stop xs j i x y after known known' more = two rises xs j i x y after known known' ∙ rw (lt_false x y more)

pub rises_done : (xs : List ℤ) (j : ℕ) → length xs ≤ j + 1 → rises (drop j xs) ≡ true
rises_done [] j h = at_drop_all rises [] j (omega arith)
rises_done (x ∷ []) zero h = refl
rises_done (x ∷ y ∷ xs) zero h = absurd (omega arith)
rises_done (x ∷ xs) (suc j) h = rises_done xs j (omega arith)
