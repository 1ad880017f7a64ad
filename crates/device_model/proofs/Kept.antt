-- An outline that breaks no rule keeps each: in the whole, at each connection, and at each two of them.
use Rattle.std.proofs.Common.{◌≡◌, ◌<◌, ℕ, zero, suc, ◌+◌, Bool, true, false, cond, List, [], ◌∷◌, ◌++◌, length, Option, Some, None, slice_get, refl, ap, ◌∙◌, arith}
use Rattle.std.proofs.lemmas.Bool.{or_parts}
use Rattle.std.proofs.lemmas.Option.{none-some}
use Rattle.std.specs.List.{list_any}
use Rattle.plan_file.specs.declared.error.PlanError.{PlanError}
use Rattle.plan_file.specs.Answer.{fault_of}
use Rattle.plan_file.specs.Entry.{Entry, Outline}
use Rattle.plan_file.specs.Places.{broken_or, first_broken, places, places_from, places_after, later_places, top_place}
use Rattle.plan_file.specs.PlanRules.{plan_places, plan_rules, breaks_whole, breaks_alone, clashes}
use Rattle.plan_file.proofs.Places.{both_none, top_none}

-- ---- no rule has a place

parts_none : (rule : PlanError) (broken : List ℕ) (later : Option (PlanError × ℕ)) → broken_or rule broken later ≡ None → (broken ≡ []) × (later ≡ None)
parts_none rule [] later e = (refl, e)
parts_none rule (place ∷ more) later e = cc

rule_none : (broken : PlanError → List ℕ) (rules : List PlanError) (k : ℕ) (rule : PlanError) → first_broken broken rules ≡ None → slice_get rules k ≡ Some rule → broken rule ≡ []
rule_none broken [] k rule e known = absurd (none-some rule known)
rule_none broken (r ∷ rules) zero rule e known =
    let here = (parts_none r (broken r) (first_broken broken rules) e).0 in
    let same : r ≡ rule = cc in rw same at here
rule_none broken (r ∷ rules) (suc k) rule e known = rule_none broken rules k rule (parts_none r (broken r) (first_broken broken rules) e).1 known

place_none : (b : Bool) (place : ℕ) (more : List ℕ) → cond b (place ∷ more) more ≡ [] → (b ≡ false) × (more ≡ [])
place_none true place more e = cc
place_none false place more e = (refl, e)

-- ---- at one element

alone_none : {A : Type 0} (test : A → Bool) (place : ℕ) (xs : List A) (i : ℕ) (x : A) → places_from place test xs ≡ [] → slice_get xs i ≡ Some x → test x ≡ false
alone_none test place [] i x e known = absurd (none-some x known)
alone_none test place (y ∷ ys) zero x e known =
    let fails = (place_none (test y) place (places_from (place + 1) test ys) e).0 in
    let same : y ≡ x = cc in rw same at fails
alone_none test place (y ∷ ys) (suc i) x e known =
    alone_none test (place + 1) ys i x (place_none (test y) place (places_from (place + 1) test ys) e).1 known

-- ---- at two elements

any_none : {A : Type 0} (test : A → Bool) (xs : List A) (i : ℕ) (x : A) → list_any test xs ≡ false → slice_get xs i ≡ Some x → test x ≡ false
any_none test [] i x e known = absurd (none-some x known)
any_none test (y ∷ ys) zero x e known =
    let fails = (or_parts (test y) (list_any test ys) e).0 in
    let same : y ≡ x = cc in rw same at fails
any_none test (y ∷ ys) (suc i) x e known = any_none test ys i x (or_parts (test y) (list_any test ys) e).1 known

pushed_keeps : {A : Type 0} (xs : List A) (y : A) (i : ℕ) (x : A) → slice_get xs i ≡ Some x → slice_get (xs ++ y ∷ []) i ≡ Some x
pushed_keeps [] y i x known = absurd (none-some x known)
pushed_keeps (z ∷ zs) y zero x known = known
pushed_keeps (z ∷ zs) y (suc i) x known = pushed_keeps zs y i x known

pushed_last : {A : Type 0} (xs : List A) (y : A) → slice_get (xs ++ y ∷ []) (length xs) ≡ Some y
pushed_last [] y = refl
pushed_last (z ∷ zs) y = pushed_last zs y

-- one that came before, and one of the rest
before_none : {A : Type 0} (before : List A) (clash : A → A → Bool) (xs : List A) (i j : ℕ) (x y : A) → places_after before clash xs ≡ []
    → slice_get before i ≡ Some x → slice_get xs j ≡ Some y → clash x y ≡ false
before_none before clash [] i j x y e known known' = absurd (none-some y known')
before_none before clash (z ∷ zs) i zero x y e known known' =
    let none = (place_none (list_any (λ w. clash w z) before) (length before + 1) (places_after (before ++ z ∷ []) clash zs) e).0 in
    let fails = any_none (λ w. clash w z) before i x none known in
    let same : z ≡ y = cc in rw same at fails
before_none before clash (z ∷ zs) i (suc j) x y e known known' =
    let none = (place_none (list_any (λ w. clash w z) before) (length before + 1) (places_after (before ++ z ∷ []) clash zs) e).1 in
    before_none (before ++ z ∷ []) clash zs i j x y none (pushed_keeps before z i x known) known'

-- two of the rest
later_none : {A : Type 0} (before : List A) (clash : A → A → Bool) (xs : List A) (i j : ℕ) (x y : A) → places_after before clash xs ≡ [] → i < j
    → slice_get xs i ≡ Some x → slice_get xs j ≡ Some y → clash x y ≡ false
later_none before clash [] i j x y e less known known' = absurd (none-some y known')
later_none before clash (z ∷ zs) i zero x y e less known known' = absurd (omega arith)
later_none before clash (z ∷ zs) zero (suc j) x y e less known known' =
    let none = (place_none (list_any (λ w. clash w z) before) (length before + 1) (places_after (before ++ z ∷ []) clash zs) e).1 in
    let same : z ≡ x = cc in
    before_none (before ++ z ∷ []) clash zs (length before) j x y none (pushed_last before z ∙ ap Some same) known'
later_none before clash (z ∷ zs) (suc i) (suc j) x y e less known known' =
    let none = (place_none (list_any (λ w. clash w z) before) (length before + 1) (places_after (before ++ z ∷ []) clash zs) e).1 in
    later_none (before ++ z ∷ []) clash zs i j x y none (omega arith) known known'

-- ---- the rules are kept

-- where a rule stands among those of a plan
pub record KeepsAll (o : Outline) : Type 0 where
  pub whole : (k : ℕ) (rule : PlanError) → slice_get plan_rules k ≡ Some rule → breaks_whole rule o ≡ false
  pub alone : (k : ℕ) (rule : PlanError) (i : ℕ) (e : Entry) → slice_get plan_rules k ≡ Some rule → slice_get o.entries i ≡ Some e → breaks_alone rule o.top e ≡ false
  pub pairs : (k : ℕ) (rule : PlanError) (i j : ℕ) (e f : Entry) → slice_get plan_rules k ≡ Some rule → i < j → slice_get o.entries i ≡ Some e → slice_get o.entries j ≡ Some f → clashes rule e f ≡ false

pub keeps_all : (o : Outline) → fault_of o ≡ None → KeepsAll o
keeps_all o none = record {
  whole = λ k rule known. top_none (breaks_whole rule o) (tops k rule known).0;
  alone = λ k rule i e known at_i. alone_none (breaks_alone rule o.top) 1 o.entries i e (rests k rule known).0 at_i;
  pairs = λ k rule i j e f known less at_i at_j. later_none [] (clashes rule) o.entries i j e f (rests k rule known).1 less at_i at_j;
}
  where
    tops : (k : ℕ) (rule : PlanError) → slice_get plan_rules k ≡ Some rule
        → (top_place (breaks_whole rule o) ≡ []) × (places (breaks_alone rule o.top) o.entries ++ later_places (clashes rule) o.entries ≡ [])
    tops k rule known = both_none (top_place (breaks_whole rule o)) (places (breaks_alone rule o.top) o.entries ++ later_places (clashes rule) o.entries) (rule_none (plan_places o) plan_rules k rule none known)

    rests : (k : ℕ) (rule : PlanError) → slice_get plan_rules k ≡ Some rule → (places (breaks_alone rule o.top) o.entries ≡ []) × (later_places (clashes rule) o.entries ≡ [])
    rests k rule known = both_none (places (breaks_alone rule o.top) o.entries) (later_places (clashes rule) o.entries) (tops k rule known).1
