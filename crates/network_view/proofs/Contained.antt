-- What lists that are put together contain.
use Rattle.std.proofs.Common.{◌≡◌, ◌<◌, ◌≤◌, ◌+◌, ◌∙◌, ◌⊎◌, inl, inr, ◌==◌, ◌≢◌, ◌||◌, ℕ, zero}
use Rattle.std.proofs.Common.{suc, Bool, true, false, List, [], ◌∷◌, ◌++◌, refl, sym, ap, subst, arith}
use Rattle.std.specs.Prelude.{filter, if◌then◌else◌}
use Rattle.std.specs.List.{Contains, flat_map, list_any, range_with_len}
use Rattle.std.proofs.lemmas.Bool.{eqb-true, eqb-false}
use Rattle.std.proofs.lemmas.List.Elements.{Contains-append_left, Contains-append_right, Contains-append_cases}

-- ---- one by one

pub in_none : {A : Type 0} (x : A) → Contains [] x → ⊥
in_none x has = absurd (let less = has.1 in omega arith)

pub first_in : {A : Type 0} (x : A) (xs : List A) → Contains (x ∷ xs) x
first_in x xs = (0, omega arith, refl)

pub later_in : {A : Type 0} (y : A) (ys : List A) (x : A) → Contains ys x → Contains (y ∷ ys) x
later_in y ys x has = (suc has.0, omega (arith, has.1), has.2)

pub cases_in : {A : Type 0} (y : A) (ys : List A) (x : A) → Contains (y ∷ ys) x → (y ≡ x) ⊎ Contains ys x
cases_in y ys x (zero, less, is) = inl is
cases_in y ys x (suc k, less, is) = inr (k, omega arith, is)

-- ---- a test of any

pub any_has : {A : Type 0} (test : A → Bool) (xs : List A) → list_any test xs ≡ true → (x : A) × Contains xs x × (test x ≡ true)
any_has test [] e = absurd (cc)
any_has test (y ∷ xs) e = go (test y) refl (any_has test xs)
  where
    go : (b : Bool) → test y ≡ b → (list_any test xs ≡ true → (x : _) × Contains xs x × (test x ≡ true)) → (x : _) × Contains (y ∷ xs) x × (test x ≡ true)
    go true t rest = (y, first_in y xs, t)
    go false t rest =
        let later = rest (sym (ap (λ b. b || list_any test xs) t) ∙ e) in
        (later.0, later_in y xs later.0 later.1, later.2)

pub has_any : {A : Type 0} (test : A → Bool) (xs : List A) (x : A) → Contains xs x → test x ≡ true → list_any test xs ≡ true
has_any test [] x has holds = absurd (in_none x has)
has_any test (y ∷ xs) x has holds = go (test y) refl (cases_in y xs x has) (λ later. has_any test xs x later holds)
  where
    go : (b : Bool) → test y ≡ b → (y ≡ x) ⊎ Contains xs x → (Contains xs x → list_any test xs ≡ true) → list_any test (y ∷ xs) ≡ true
    go true t h rest = ap (λ b. b || list_any test xs) t
    go false t (inl is) rest = ap (λ b. b || list_any test xs) (ap test is ∙ holds)
    go false t (inr later) rest = ap (λ b. b || list_any test xs) t ∙ rest later

-- ---- lists for each

pub flat_has : {A B : Type 0} (f : A → List B) (xs : List A) (y : B) → Contains (flat_map f xs) y → (x : A) × Contains xs x × Contains (f x) y
flat_has f [] y has = absurd (in_none y has)
flat_has {A} f (x ∷ xs) y has = go (Contains-append_cases (f x) (flat_map f xs) y has) (flat_has f xs y)
  where
    go : Contains (f x) y ⊎ Contains (flat_map f xs) y → (Contains (flat_map f xs) y → (z : A) × Contains xs z × Contains (f z) y)
        → (z : A) × Contains (x ∷ xs) z × Contains (f z) y
    go (inl here) more = (x, first_in x xs, here)
    go (inr later) more =
        let rest = more later in
        (rest.0, later_in x xs rest.0 rest.1, rest.2)

pub has_flat : {A B : Type 0} (f : A → List B) (xs : List A) (x : A) (y : B) → Contains xs x → Contains (f x) y → Contains (flat_map f xs) y
has_flat f [] x y has within = absurd (in_none x has)
has_flat f (z ∷ xs) x y has within = go (cases_in z xs x has) (λ later. has_flat f xs x y later within)
  where
    go : (z ≡ x) ⊎ Contains xs x → (Contains xs x → Contains (flat_map f xs) y) → Contains (flat_map f (z ∷ xs)) y
    go (inl is) rest = Contains-append_left (f z) (flat_map f xs) y (subst (λ w. Contains (f w) y) (sym is) within)
    go (inr later) rest = Contains-append_right (f z) (flat_map f xs) y (rest later)

-- all of them are empty, or one is not
nil_front : {B : Type 0} (xs ys : List B) → xs ++ ys ≡ [] → xs ≡ []
nil_front [] ys e = refl
nil_front (x ∷ xs) ys e = absurd (cc)

pub nil_parts : {B : Type 0} (xs ys : List B) → xs ++ ys ≡ [] → (xs ≡ []) × (ys ≡ [])
nil_parts xs ys e = (nil_front xs ys e, sym (ap (λ t. t ++ ys) (nil_front xs ys e)) ∙ e)

pub flat_nil : {A B : Type 0} (f : A → List B) (xs : List A) (x : A) → flat_map f xs ≡ [] → Contains xs x → f x ≡ []
flat_nil f [] x e has = absurd (in_none x has)
flat_nil f (y ∷ xs) x e has = go (nil_parts (f y) (flat_map f xs) e) (cases_in y xs x has) (flat_nil f xs x)
  where
    go : (f y ≡ []) × (flat_map f xs ≡ []) → (y ≡ x) ⊎ Contains xs x → (flat_map f xs ≡ [] → Contains xs x → f x ≡ []) → f x ≡ []
    go p (inl is) rest = ap f (sym is) ∙ p.0
    go p (inr later) rest = rest p.1 later

pub nil_flat : {A B : Type 0} (f : A → List B) (xs : List A) → ((x : A) → Contains xs x → f x ≡ []) → flat_map f xs ≡ []
nil_flat f [] each = refl
nil_flat f (x ∷ xs) each = ap (λ t. t ++ flat_map f xs) (each x (first_in x xs)) ∙ nil_flat f xs (λ y has. each y (later_in x xs y has))

-- ---- those that pass a test

pub filter_has : (test : ℕ → Bool) (xs : List ℕ) (k : ℕ) → Contains (filter test xs) k → Contains xs k × (test k ≡ true)
filter_has test [] k has = absurd (in_none k has)
filter_has test (x ∷ xs) k has = go (test x) refl (filter_has test xs k)
  where
    later : Contains xs k × (test k ≡ true) → Contains (x ∷ xs) k × (test k ≡ true)
    later p = (later_in x xs k p.0, p.1)

    here : test x ≡ true → (x ≡ k) ⊎ Contains (filter test xs) k → (Contains (filter test xs) k → Contains xs k × (test k ≡ true))
        → Contains (x ∷ xs) k × (test k ≡ true)
    here t (inl is) rest = (subst (Contains (x ∷ xs)) is (first_in x xs), sym (ap test is) ∙ t)
    here t (inr more) rest = later (rest more)

    go : (b : Bool) → test x ≡ b → (Contains (filter test xs) k → Contains xs k × (test k ≡ true)) → Contains (x ∷ xs) k × (test k ≡ true)
    go true t rest = here t (cases_in x (filter test xs) k (subst (λ b. Contains (if b then x ∷ filter test xs else filter test xs) k) t has)) rest
    go false t rest = later (rest (subst (λ b. Contains (if b then x ∷ filter test xs else filter test xs) k) t has))

pub has_filter : (test : ℕ → Bool) (xs : List ℕ) (k : ℕ) → Contains xs k → test k ≡ true → Contains (filter test xs) k
has_filter test [] k has holds = absurd (in_none k has)
has_filter test (x ∷ xs) k has holds = go (test x) refl (cases_in x xs k has) (λ later. has_filter test xs k later holds)
  where
    go : (b : Bool) → test x ≡ b → (x ≡ k) ⊎ Contains xs k → (Contains xs k → Contains (filter test xs) k) → Contains (filter test (x ∷ xs)) k
    go true t (inl is) rest =
        subst (λ b. Contains (if b then x ∷ filter test xs else filter test xs) k) (sym t)
        (subst (Contains (x ∷ filter test xs)) is (first_in x (filter test xs)))
    go true t (inr later) rest = subst (λ b. Contains (if b then x ∷ filter test xs else filter test xs) k) (sym t) (later_in x (filter test xs) k (rest later))
    go false t (inl is) rest = absurd (let no_test : false ≡ true = sym t ∙ ap test is ∙ holds in cc)
    go false t (inr later) rest = subst (λ b. Contains (if b then x ∷ filter test xs else filter test xs) k) (sym t) (rest later)

-- ---- a range

pub range_has : (a n k : ℕ) → Contains (range_with_len a n) k → (a ≤ k) × (k < a + n)
range_has a zero k has = absurd (in_none k has)
range_has a (suc n) k has = go (cases_in a (range_with_len (a + 1) n) k has) (range_has (a + 1) n k)
  where
    go : (a ≡ k) ⊎ Contains (range_with_len (a + 1) n) k → (Contains (range_with_len (a + 1) n) k → (a + 1 ≤ k) × (k < a + 1 + n)) → (a ≤ k) × (k < a + suc n)
    go (inl is) more = (omega arith, omega arith)
    go (inr later) more =
        let rest = more later in
        let low = rest.0 in
        let high = rest.1 in
        (omega arith, omega arith)

pub has_range : (a n k : ℕ) → a ≤ k → k < a + n → Contains (range_with_len a n) k
has_range a zero k low high = absurd (omega arith)
has_range a (suc n) k low high = go (k == a) refl (has_range (a + 1) n k)
  where
    go : (b : Bool) → (k == a) ≡ b → (a + 1 ≤ k → k < a + 1 + n → Contains (range_with_len (a + 1) n) k) → Contains (range_with_len a (suc n)) k
    go true t rest = subst (Contains (range_with_len a (suc n))) (sym (eqb-true k a t)) (first_in a (range_with_len (a + 1) n))
    go false t rest =
        let other : k ≢ a = eqb-false k a t in
        later_in a (range_with_len (a + 1) n) k (rest (omega (arith, other)) (omega arith))
