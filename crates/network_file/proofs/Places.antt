-- What holds of a list where a rule is broken nowhere in it, and where it is.
use Rattle.std.proofs.Common.{◌≡◌, ℕ, ◌+◌, ◌<◌, Bool, true, false, ◌||◌, cond, List, [], ◌∷◌, ◌++◌, take, length, map, Option, Some, None, slice_get, refl, ap, sym, ◌∙◌, arith, zero, suc}
use Rattle.std.specs.List.{Contains, list_any}
use Rattle.std.proofs.lemmas.Option.{slice_get_within, slice_get-get_or, get_or_from_slice_get}
use Rattle.plan_file.specs.Places.{places, places_from, places_after, later_places}
use Rattle.plan_file.proofs.Steps.{slice_get_front}
use Rattle.network_file.specs.declared.error.NetworkError.{NetworkError}
use Rattle.network_file.specs.declared.place.Place.{Place}
use Rattle.network_file.specs.Places.{at_top, at_nodes, at_fibres, at_cuts, broken_or, first_broken}

-- ---- no rule is broken

broken_or_none : (rule : NetworkError) (broken : Option Place) (later : Option (NetworkError × Place)) → broken_or rule broken later ≡ None
    → (broken ≡ None) × (later ≡ None)
broken_or_none rule None later e = (refl, e)
broken_or_none rule (Some place) later e = cc

pub none_at : (broken : NetworkError → Option Place) (rules : List NetworkError) (i : ℕ) (rule : NetworkError) → first_broken broken rules ≡ None
    → slice_get rules i ≡ Some rule → broken rule ≡ None
none_at broken [] i rule e known = cc
none_at broken (r ∷ rules) zero rule e known =
    let here = (broken_or_none r (broken r) (first_broken broken rules) e).0 in
    let same : r ≡ rule = cc in rw same at here
none_at broken (r ∷ rules) (suc i) rule e known = none_at broken rules i rule (broken_or_none r (broken r) (first_broken broken rules) e).1 known

pub top_none : (b : Bool) → at_top b ≡ None → b ≡ false
top_none true e = cc
top_none false e = refl

pub nodes_none : (numbers : List ℕ) → at_nodes numbers ≡ None → numbers ≡ []
nodes_none [] e = refl
nodes_none (n ∷ numbers) e = cc

pub fibres_none : (numbers : List ℕ) → at_fibres numbers ≡ None → numbers ≡ []
fibres_none [] e = refl
fibres_none (n ∷ numbers) e = cc

pub cuts_none : (numbers : List ℕ) → at_cuts numbers ≡ None → numbers ≡ []
cuts_none [] e = refl
cuts_none (n ∷ numbers) e = cc

-- ---- a list without a place

place_none : (b : Bool) (place : ℕ) (after without : List ℕ) → cond b (place ∷ after) without ≡ [] → (b ≡ false) × (without ≡ [])
place_none true place after without e = cc
place_none false place after without e = (refl, e)

places_none_from : {A : Type 0} (test : A → Bool) (place : ℕ) (xs : List A) (i : ℕ) (x : A) → places_from place test xs ≡ [] → slice_get xs i ≡ Some x
    → test x ≡ false
places_none_from test place [] i x e known = cc
places_none_from test place (y ∷ ys) zero x e known =
    let fails = (place_none (test y) place (places_from (place + 1) test ys) (places_from (place + 1) test ys) e).0 in
    let same : y ≡ x = cc in rw same at fails
places_none_from test place (y ∷ ys) (suc i) x e known =
    places_none_from test (place + 1) ys i x (place_none (test y) place (places_from (place + 1) test ys) (places_from (place + 1) test ys) e).1 known

pub places_none : {A : Type 0} (test : A → Bool) (xs : List A) (i : ℕ) (x : A) → places test xs ≡ [] → slice_get xs i ≡ Some x → test x ≡ false
places_none test xs i x e known = places_none_from test 1 xs i x e known

any_none : {A : Type 0} (test : A → Bool) (xs : List A) (i : ℕ) (x : A) → list_any test xs ≡ false → slice_get xs i ≡ Some x → test x ≡ false
any_none test [] i x e known = cc
any_none test (y ∷ ys) zero x e known =
    let same : y ≡ x = cc in rw same at (or_none (test y) (list_any test ys) e).0
  where
    or_none : (a b : Bool) → (a || b) ≡ false → (a ≡ false) × (b ≡ false)
    or_none true b e = cc
    or_none false b e = (refl, e)
any_none test (y ∷ ys) (suc i) x e known = any_none test ys i x (rest_none (test y) (list_any test ys) e) known
  where
    rest_none : (a b : Bool) → (a || b) ≡ false → b ≡ false
    rest_none true b e = cc
    rest_none false b e = e

append_none : {A : Type 0} (xs : List A) → xs ++ [] ≡ xs
append_none [] = refl
append_none (x ∷ xs) = ap (λ ys. x ∷ ys) (append_none xs)

append_one : {A : Type 0} (xs : List A) (y : A) (ys : List A) → (xs ++ y ∷ []) ++ ys ≡ xs ++ y ∷ ys
append_one [] y ys = refl
append_one (x ∷ xs) y ys = ap (λ zs. x ∷ zs) (append_one xs y ys)

after_none : {A : Type 0} (before : List A) (clash : A → A → Bool) (xs : List A) (j : ℕ) (y : A) → places_after before clash xs ≡ [] → slice_get xs j ≡ Some y
    → list_any (λ x. clash x y) (before ++ take j xs) ≡ false
after_none before clash [] j y e known = cc
after_none before clash (x ∷ xs) zero y e known =
    let rest = places_after (before ++ x ∷ []) clash xs in
    let fails = (place_none (list_any (λ z. clash z x) before) (length before + 1) rest rest e).0 in
    let same : x ≡ y = cc in
    ap (list_any (λ z. clash z y)) (append_none before) ∙ ap (λ w. list_any (λ z. clash z w) before) (sym same) ∙ fails
after_none before clash (x ∷ xs) (suc j) y e known =
    let rest = places_after (before ++ x ∷ []) clash xs in
    let none = (place_none (list_any (λ z. clash z x) before) (length before + 1) rest rest e).1 in
    ap (list_any (λ z. clash z y)) (sym (append_one before x (take j xs))) ∙ after_none (before ++ x ∷ []) clash xs j y none known

-- an earlier and a later one
pub later_none : {A : Type 0} (clash : A → A → Bool) (xs : List A) (i j : ℕ) (x y : A) → later_places clash xs ≡ [] → slice_get xs i ≡ Some x
    → slice_get xs j ≡ Some y → i < j → clash x y ≡ false
later_none clash xs i j x y e known known' before =
    any_none (λ z. clash z y) (take j xs) i x (after_none [] clash xs j y e known') (slice_get_front xs j i x before known)

-- ---- a list in which no element breaks the rule

pub places_nowhere : {A : Type 0} (test : A → Bool) (place : ℕ) (xs : List A) → ((i : ℕ) (x : A) → slice_get xs i ≡ Some x → test x ≡ false)
    → places_from place test xs ≡ []
places_nowhere test place [] never = refl
places_nowhere test place (x ∷ xs) never = rw (never 0 x refl, places_nowhere test (place + 1) xs (λ i y known. never (suc i) y known))

-- ---- elements

pub element_of : {A : Type 0} (xs : List A) (x : A) → (has : Contains xs x) → slice_get xs has.0 ≡ Some x
element_of xs x has = slice_get-get_or xs has.0 x has.1 ∙ ap Some has.2

pub is_element : {A : Type 0} (xs : List A) (i : ℕ) (x : A) → slice_get xs i ≡ Some x → Contains xs x
is_element xs i x at = (i, slice_get_within xs i x at, get_or_from_slice_get xs i x x at)

pub mapped_at : {A B : Type 0} (f : A → B) (xs : List A) (i : ℕ) (y : B) → slice_get (map f xs) i ≡ Some y → (x : A) × (slice_get xs i ≡ Some x) × (y ≡ f x)
mapped_at f [] i y known = cc
mapped_at f (x ∷ xs) zero y known = (x, refl, cc)
mapped_at f (x ∷ xs) (suc i) y known = mapped_at f xs i y known

-- two numbers of which none is less
pub same_number : (i j : ℕ) → (i < j → ⊥) → (j < i → ⊥) → i ≡ j
same_number zero zero less more = refl
same_number zero (suc j) less more = absurd (less (omega arith))
same_number (suc i) zero less more = absurd (more (omega arith))
same_number (suc i) (suc j) less more = ap suc (same_number i j (λ h. less (omega arith)) (λ h. more (omega arith)))
