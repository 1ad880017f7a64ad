-- Numbers that are within bounds, as natural ones.
use Rattle.std.proofs.Common.{◌≡◌, ℕ, ◌≤◌, ℤ, pos, negsuc, Bool, true, List, [], ◌∷◌, map, Some, slice_get, refl, arith, zero, suc}
use Rattle.std.proofs.lemmas.Bool.{and_parts}
use Rattle.std.proofs.lemmas.Bool.Decides.{nat_tests}
use Rattle.std.specs.List.{list_all}
use Rattle.plan_file.specs.Entry.{natural}
use Rattle.plan_file.specs.Rules.{is_within}

pub record IsWithin (least most : ℕ) (z : ℤ) : Type 0 where
  pub same : pos (natural z) ≡ z
  pub low : least ≤ natural z
  pub high : natural z ≤ most

pub within : (least most : ℕ) (z : ℤ) → is_within least most z ≡ true → IsWithin least most z
within least most (pos n) h = record { same = refl; low = grind (arith, nat_tests); high = grind (arith, nat_tests) }
within least most (negsuc n) h = cc

pub is_within-natural : (least most n : ℕ) → least ≤ n → n ≤ most → is_within least most (pos n) ≡ true
is_within-natural least most n low high = grind (arith, nat_tests)

-- wider bounds
pub is_within-wider : (least most least' most' : ℕ) (z : ℤ) → is_within least most z ≡ true → least' ≤ least → most ≤ most' → is_within least' most' z ≡ true
is_within-wider least most least' most' (pos n) h low high = grind (arith, nat_tests)
is_within-wider least most least' most' (negsuc n) h low high = cc

pub list_all-wider : (least most least' most' : ℕ) (zs : List ℤ) → list_all (is_within least most) zs ≡ true → least' ≤ least → most ≤ most' → list_all (is_within least' most') zs ≡ true
list_all-wider least most least' most' [] h low high = refl
list_all-wider least most least' most' (z ∷ zs) h low high =
    let (here, rest) = and_parts (is_within least most z) (list_all (is_within least most) zs) h in
    rw (is_within-wider least most least' most' z here low high) (list_all-wider least most least' most' zs rest low high)

-- a test of all, at a known element
pub all_at : {A : Type 0} (p : A → Bool) (xs : List A) (i : ℕ) (x : A) → list_all p xs ≡ true → slice_get xs i ≡ Some x → p x ≡ true
all_at p [] i x h known = cc
all_at p (y ∷ ys) zero x h known =
    let (here, rest) = and_parts (p y) (list_all p ys) h in cc
all_at p (y ∷ ys) (suc i) x h known =
    let (here, rest) = and_parts (p y) (list_all p ys) h in all_at p ys i x rest known

pub pos-natural : (least most : ℕ) (zs : List ℤ) → list_all (is_within least most) zs ≡ true → map pos (map natural zs) ≡ zs
pos-natural least most [] h = refl
pos-natural least most (z ∷ zs) h =
    let (here, rest) = and_parts (is_within least most z) (list_all (is_within least most) zs) h in
    rw ((within least most z here).same, pos-natural least most zs rest)
