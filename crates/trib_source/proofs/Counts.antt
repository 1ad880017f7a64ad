-- How many data groups there are, group by group.
use Rattle.std.proofs.Common.{◌≡◌, ℕ, zero, suc, ◌+◌, ◌*◌, ◌/◌, ◌%◌, ◌<◌, ◌≤◌, Bool, true, false, cond, refl, ap, ◌∙◌, sym, arith}
use Rattle.std.proofs.lemmas.Bool.{ltb-true, lt-ltb}
use Rattle.std.proofs.Math.Nat.{mul-le-mul_left}
use Rattle.gmp_rule.specs.DataRule.{IsData, is_data_at, data_count}
use Rattle.gmp_rule.proofs.CountLaw.{data_count_is}

pub count_low : (c j : ℕ) → c ≤ 15232 → j ≤ 15232 → data_count c j ≤ c
count_low c j h l =
    let is = data_count_is c j h in
    let most : c * j ≤ c * 15232 = mul-le-mul_left c l in
    let few : j * c / 15232 ≤ c = omega arith in
    omega arith

count_next : (c j : ℕ) → data_count c (j + 1) ≡ data_count c j + cond (is_data_at c (j + 1)) 1 0
count_next c j = let e : j + 1 ≡ suc j = omega arith in ap (data_count c) e ∙ ap (λ k. data_count c j + cond {A = ℕ} (is_data_at c k) 1 0) (sym e)

pub data_next : (c j : ℕ) → IsData c (j + 1) → data_count c (j + 1) ≡ data_count c j + 1
data_next c j d = count_next c j ∙ ap (λ t. data_count c j + cond {A = ℕ} t 1 0) (lt-ltb (((j + 1) * c) % 15232) c d)

not_data : (c j : ℕ) → (IsData c j → ⊥) → is_data_at c j ≡ false
not_data c j none = go (is_data_at c j) refl
  where
    go : (t : Bool) → is_data_at c j ≡ t → is_data_at c j ≡ false
    go true e = absurd (none (ltb-true ((j * c) % 15232) c e))
    go false e = e

pub stuff_next : (c j : ℕ) → (IsData c (j + 1) → ⊥) → data_count c (j + 1) ≡ data_count c j
stuff_next c j none = count_next c j ∙ ap (λ t. data_count c j + cond {A = ℕ} t 1 0) (not_data c (j + 1) none) ∙ omega arith

pub data_run : (c j run : ℕ) → ((i : ℕ) → i < run → IsData c (j + i + 1)) → data_count c (j + run) ≡ data_count c j + run
data_run c j zero each = ap (data_count c) (let e : j + 0 ≡ j = omega arith in e) ∙ omega arith
data_run c j (suc run) each =
    let before = data_run c j run (λ i l. each i (omega arith)) in
    let one = data_next c (j + run) (each run (omega arith)) in
    ap (data_count c) (let e : j + suc run ≡ j + run + 1 = omega arith in e) ∙ omega arith

-- more groups have no fewer of them
pub counts_grow : (c j more : ℕ) → data_count c j ≤ data_count c (j + more)
counts_grow c j zero = let e : data_count c (j + 0) ≡ data_count c j = ap (data_count c) (let e : j + 0 ≡ j = omega arith in e) in omega arith
counts_grow c j (suc more) =
    let before = counts_grow c j more in
    let here : data_count c (j + suc more) ≡ data_count c (j + more + 1) = ap (data_count c) (let e : j + suc more ≡ j + more + 1 = omega arith in e) in
    let next = count_next c (j + more) in
    omega arith

one_most : (t : Bool) → cond {A = ℕ} t 1 0 ≤ 1
one_most true = omega arith
one_most false = omega arith

-- and no more than there are groups more
pub counts_few : (c j more : ℕ) → data_count c (j + more) ≤ data_count c j + more
counts_few c j zero = let e : data_count c (j + 0) ≡ data_count c j = ap (data_count c) (let e : j + 0 ≡ j = omega arith in e) in omega arith
counts_few c j (suc more) =
    let before = counts_few c j more in
    let here : data_count c (j + suc more) ≡ data_count c (j + more + 1) = ap (data_count c) (let e : j + suc more ≡ j + more + 1 = omega arith in e) in
    let next = count_next c (j + more) in
    let few = one_most (is_data_at c (j + more + 1)) in
    omega arith
