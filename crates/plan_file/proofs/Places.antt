-- Places where nothing is broken, and the first place of two lists.
use Rattle.std.proofs.Common.{◌≡◌, ℕ, ◌+◌, Bool, true, false, List, [], ◌∷◌, ◌++◌, Some, None, refl}
use Rattle.std.specs.List.{list_any}
use Rattle.plan_file.specs.Places.{first, top_place, places_from, places_after}

-- ---- the first place

pub first_some : (xs ys : List ℕ) (place : ℕ) → Some place ≡ first xs → Some place ≡ first (xs ++ ys)
first_some [] ys place e = cc
first_some (x ∷ xs) ys place e = e

pub first_none : (xs ys : List ℕ) → None ≡ first xs → first (xs ++ ys) ≡ first ys
first_none [] ys e = refl
first_none (x ∷ xs) ys e = cc

pub ruleset first_of_both = (first_some, first_none)

-- ---- nothing is broken

pub both_none : (xs ys : List ℕ) → xs ++ ys ≡ [] → (xs ≡ []) × (ys ≡ [])
both_none [] ys e = (refl, e)
both_none (x ∷ xs) ys e = cc

pub top_none : (b : Bool) → top_place b ≡ [] → b ≡ false
top_none true e = cc
top_none false e = refl

-- a test that nothing passes
pub places_never : {A : Type 0} (test : A → Bool) (place : ℕ) (xs : List A) → ((x : A) → test x ≡ false) → places_from place test xs ≡ []
places_never test place [] never = refl
places_never test place (x ∷ xs) never = rw (never x, places_never test (place + 1) xs never)

any_never : {A : Type 0} (test : A → Bool) (xs : List A) → ((x : A) → test x ≡ false) → list_any test xs ≡ false
any_never test [] never = refl
any_never test (x ∷ xs) never = rw (never x, any_never test xs never)

pub later_never : {A : Type 0} (before : List A) (clash : A → A → Bool) (xs : List A) → ((x y : A) → clash x y ≡ false) → places_after before clash xs ≡ []
later_never before clash [] never = refl
later_never before clash (x ∷ xs) never = rw (any_never (λ y. clash y x) before (λ y. never y x), later_never (before ++ x ∷ []) clash xs never)
