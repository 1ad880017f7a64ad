-- The steps of loops that go through a list by an index, and note places.
use Rattle.std.proofs.Common.{◌≡◌, ℕ, ◌+◌, ◌<◌, ◌≤◌, Bool, true, false, List, [], ◌∷◌, ◌++◌, take, drop, length, Some, slice_get, refl, ap, ◌∙◌, sym, arith, zero, suc}
use Rattle.std.proofs.lemmas.List.{at_drop_all, take_more}
use Rattle.std.proofs.lemmas.Option.{slice_get_within, get_or_from_slice_get, none-some}
use Rattle.std.specs.List.{list_any}
use Rattle.plan_table.proofs.Steps.{step}
pub use Rattle.plan_table.proofs.Steps.{any_go, any_stop, any_done}
use Rattle.plan_file.specs.Places.{first, places_from, places_after}

-- ---- a test of any

pub ruleset anys = (any_go, any_stop, any_done)

-- ---- the front of a list

pub take_known : {A : Type 0} (xs : List A) (i : ℕ) (x : A) → slice_get xs i ≡ Some x → take (i + 1) xs ≡ take i xs ++ x ∷ []
take_known xs i x known = take_more xs i x (slice_get_within xs i x known) ∙ ap (λ y. take i xs ++ y ∷ []) (get_or_from_slice_get xs i x x known)

pub slice_get_front : {A : Type 0} (xs : List A) (n i : ℕ) (x : A) → i < n → slice_get xs i ≡ Some x → slice_get (take n xs) i ≡ Some x
slice_get_front [] n i x below known = absurd (none-some x known)
slice_get_front (y ∷ ys) zero i x below known = absurd (omega arith)
slice_get_front (y ∷ ys) (suc n) zero x below known = known
slice_get_front (y ∷ ys) (suc n) (suc i) x below known = slice_get_front ys n i x (omega arith) known

pub length_front : {A : Type 0} (xs : List A) (n : ℕ) → n ≤ length xs → length (take n xs) ≡ n
length_front [] zero h = refl
length_front [] (suc n) h = absurd (omega arith)
length_front (x ∷ xs) zero h = refl
length_front (x ∷ xs) (suc n) h = ap suc (length_front xs n (omega arith))

-- ---- places

pub places_go : {A : Type 0} (test : A → Bool) (place : ℕ) (xs : List A) (i : ℕ) (x : A) → slice_get xs i ≡ Some x → test x ≡ false
    → places_from place test (drop i xs) ≡ places_from (place + 1) test (drop (i + 1) xs)
places_go test place xs i x known fails = step (places_from place test) xs i x known ∙ rw fails

pub places_stop : {A : Type 0} (test : A → Bool) (place : ℕ) (xs : List A) (i : ℕ) (x : A) → slice_get xs i ≡ Some x → test x ≡ true
    → first (places_from place test (drop i xs)) ≡ Some place
places_stop test place xs i x known holds = step (λ rest. first (places_from place test rest)) xs i x known ∙ rw holds

pub places_done : {A : Type 0} (test : A → Bool) (place : ℕ) (xs : List A) (i : ℕ) → length xs ≤ i → places_from place test (drop i xs) ≡ []
places_done test place xs i end = at_drop_all (places_from place test) xs i end

pub ruleset singles = (places_go, places_stop, places_done)

pub later_go : {A : Type 0} (clash : A → A → Bool) (xs : List A) (i : ℕ) (x : A) → slice_get xs i ≡ Some x → list_any (λ y. clash y x) (take i xs) ≡ false
    → places_after (take i xs) clash (drop i xs) ≡ places_after (take (i + 1) xs) clash (drop (i + 1) xs)
later_go clash xs i x known fails =
    step (places_after (take i xs) clash) xs i x known ∙ (rw fails) ∙ ap (λ before. places_after before clash (drop (i + 1) xs)) (sym (take_known xs i x known))

pub later_stop : {A : Type 0} (clash : A → A → Bool) (xs : List A) (i : ℕ) (x : A) → slice_get xs i ≡ Some x → list_any (λ y. clash y x) (take i xs) ≡ true
    → first (places_after (take i xs) clash (drop i xs)) ≡ Some (i + 1)
later_stop clash xs i x known holds =
    step (λ rest. first (places_after (take i xs) clash rest)) xs i x known ∙ (rw holds) ∙ ap (λ n. Some (n + 1)) (length_front xs i (short xs i x known))
  where
    short : {A : Type 0} (xs : List A) (i : ℕ) (x : A) → slice_get xs i ≡ Some x → i ≤ length xs
    short xs i x known = let inside = slice_get_within xs i x known in omega arith

pub later_done : {A : Type 0} (clash : A → A → Bool) (xs : List A) (i : ℕ) → length xs ≤ i → places_after (take i xs) clash (drop i xs) ≡ []
later_done clash xs i end = at_drop_all (places_after (take i xs) clash) xs i end

pub ruleset pairs = (later_go, later_stop, later_done)
