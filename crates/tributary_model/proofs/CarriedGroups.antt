-- The data groups of a turn that carries a list of bytes, joined, are the next bytes of the list.
use Rattle.std.proofs.Common.{◌≡◌, ℕ, zero, suc, ◌+◌, ◌*◌, ◌/◌, ◌%◌, ◌-◌, ◌<◌, ◌≤◌, List, [], ◌∷◌, ◌++◌, length, take, drop, Bool, true, false, cond, Option, Some, None, refl, ap, ◌∙◌, sym, subst, arith}
use Rattle.std.specs.Prelude.{slice_get, slice_range}
use Rattle.std.specs.List.{flat_map, enumerate_from}
use Rattle.std.proofs.lemmas.Bool.{ltb-true}
use Rattle.std.proofs.Math.Nat.{mul-le-mul_left}
use Rattle.gmp_rule.specs.DataRule.{IsData, is_data_at, data_count}
use Rattle.gmp_rule.proofs.CountLaw.{data_count_is}
use Rattle.tributary_model.specs.Emission.{data_bytes}
use Rattle.tributary_model.proofs.Ranges.{none_between, joined}

count_next : (c j : ℕ) (t : Bool) → is_data_at c (suc j) ≡ t → data_count c (suc j) ≡ data_count c j + cond t 1 0
count_next c j t e = ap (λ t. data_count c j + cond t 1 0) e

count_up : (c s n : ℕ) → data_count c s ≤ data_count c (s + n)
count_up c s zero = let e : data_count c s ≡ data_count c (s + 0) = ap (data_count c) (let f : s ≡ s + 0 = omega arith in f) in omega arith
count_up c s (suc n) =
    let before = count_up c s n in
    let e : data_count c (suc (s + n)) ≡ data_count c (s + suc n) = ap (data_count c) (let f : suc (s + n) ≡ s + suc n = omega arith in f) in
    let step = count_next c (s + n) (is_data_at c (suc (s + n))) refl in
    omega arith

some_is : (x y : List ℕ) → Some x ≡ Some y → x ≡ y
some_is x y e = ap (λ o. pick o) e
  where
    pick : Option (List ℕ) → List ℕ
    pick (Some z) = z
    pick None = []

-- a group where it is data, from the data groups before it on
group_is : (m c q s : ℕ) (t : Bool) (bytes g : List ℕ) → is_data_at c (suc s) ≡ t → (t ≡ true → Some g ≡ Some (take m (drop (m * (q + data_count c s)) bytes)))
    → cond t g [] ≡ slice_range bytes (m * (q + data_count c s)) (m * (q + data_count c (suc s)))
group_is m c q s true bytes g e h =
    let next : data_count c (suc s) ≡ data_count c s + 1 = count_next c s true e in
    let long : m ≡ m * (q + (data_count c s + 1)) - m * (q + data_count c s) = (let f : m * (q + (data_count c s + 1)) ≡ m * (q + data_count c s) + m = omega arith in omega arith) in
    some_is _ _ (h refl)
    ∙ ap (λ n. take n (drop (m * (q + data_count c s)) bytes)) long
    ∙ ap (λ n. slice_range bytes (m * (q + data_count c s)) (m * (q + n))) (sym next)
group_is m c q s false bytes g e h =
    let next : data_count c (suc s) ≡ data_count c s = count_next c s false e ∙ omega arith in
    sym (none_between bytes (m * (q + data_count c s))) ∙ ap (λ n. slice_range bytes (m * (q + data_count c s)) (m * (q + n))) (sym next)

-- the data groups from the one after s on
data_from : (m c q s j : ℕ) (bytes : List ℕ) (groups : List (List ℕ)) → j ≡ suc s
    → ((k : ℕ) → k < length groups → is_data_at c (suc (s + k)) ≡ true → slice_get groups k ≡ Some (take m (drop (m * (q + data_count c (s + k))) bytes)))
    → flat_map (λ p. cond (is_data_at c (p.0)) p.1 []) (enumerate_from j groups) ≡ slice_range bytes (m * (q + data_count c s)) (m * (q + data_count c (s + length groups)))
data_from m c q s j bytes [] e h =
    sym (none_between bytes (m * (q + data_count c s))) ∙ ap (λ n. slice_range bytes (m * (q + data_count c s)) (m * (q + data_count c n))) (let f : s ≡ s + 0 = omega arith in f)
data_from m c q s j bytes (g ∷ groups) e h =
    let here : s + 0 ≡ s = omega arith in
    let first : is_data_at c (suc s) ≡ true → Some g ≡ Some (take m (drop (m * (q + data_count c s)) bytes)) =
    subst (λ n. is_data_at c (suc n) ≡ true → Some g ≡ Some (take m (drop (m * (q + data_count c n)) bytes))) here (h 0 (omega arith)) in
    let head : cond (is_data_at c (suc s)) g [] ≡ slice_range bytes (m * (q + data_count c s)) (m * (q + data_count c (suc s))) =
    group_is m c q s (is_data_at c (suc s)) bytes g refl first in
    let rest = data_from m c q (suc s) (j + 1) bytes groups (omega arith)
    (λ k l. subst (λ n. is_data_at c (suc n) ≡ true → slice_get groups k ≡ Some (take m (drop (m * (q + data_count c n)) bytes))) (let f : s + suc k ≡ suc s + k = omega arith in f) (h (suc k) (omega arith))) in
    let up = count_next c s (is_data_at c (suc s)) refl in
    let further = count_up c (suc s) (length groups) in
    let low : m * (q + data_count c s) ≤ m * (q + data_count c (suc s)) = mul-le-mul_left m (omega arith) in
    let high : m * (q + data_count c (suc s)) ≤ m * (q + data_count c (suc s + length groups)) = mul-le-mul_left m (omega arith) in
    ap (λ i. cond (is_data_at c i) g [] ++ flat_map (λ p. cond (is_data_at c (p.0)) p.1 []) (enumerate_from (j + 1) groups)) e
    ∙ ap (λ xs. xs ++ flat_map (λ p. cond (is_data_at c (p.0)) p.1 []) (enumerate_from (j + 1) groups)) head
    ∙ ap (λ ys. slice_range bytes (m * (q + data_count c s)) (m * (q + data_count c (suc s))) ++ ys) rest
    ∙ joined bytes (m * (q + data_count c s)) (m * (q + data_count c (suc s))) (m * (q + data_count c (suc s + length groups))) low high
    ∙ ap (λ n. slice_range bytes (m * (q + data_count c s)) (m * (q + data_count c n))) (let f : suc s + length groups ≡ s + suc (length groups) = omega arith in f)

-- the place of a data group, counted by those before it
place_is : (c q k : ℕ) → c ≤ 15232 → is_data_at c (suc k) ≡ true → q + suc k * c / 15232 - 1 ≡ q + data_count c k
place_is c q k h e =
    let next : data_count c (suc k) ≡ data_count c k + 1 = count_next c k true e in
    let law : data_count c (suc k) ≡ suc k * c / 15232 = data_count_is c (suc k) h in
    omega arith

-- After q groups, the data groups of a multiframe of c of them are the c groups of the list from group q on.
pub carried_data : (m c q : ℕ) (bytes : List ℕ) (groups : List (List ℕ)) → c ≤ 15232 → length groups ≡ 15232
    → ((j : ℕ) → 1 ≤ j → j ≤ 15232 → IsData c j → slice_get groups (j - 1) ≡ Some (take m (drop (m * (q + j * c / 15232 - 1)) bytes)))
    → data_bytes c groups ≡ slice_range bytes (m * q) (m * (q + c))
unfolding data_bytes
carried_data m c q bytes groups h n each =
    let all = data_from m c q 0 1 bytes groups refl (λ k l d. at k (0 + k) (k_is k) (omega arith) d) in
    let none : q + data_count c 0 ≡ q = omega arith in
    let whole : q + data_count c (0 + length groups) ≡ q + c = ap (λ x. q + x) (ap (data_count c) (let f : 0 + length groups ≡ 15232 = omega arith in f) ∙ data_count_is c 15232 h ∙ omega arith) in
    all ∙ ap (λ x. slice_range bytes (m * x) (m * (q + data_count c (0 + length groups)))) none ∙ ap (λ x. slice_range bytes (m * q) (m * x)) whole
  where
    k_is : (k : ℕ) → k ≡ 0 + k
    k_is k = omega arith

    at : (k i : ℕ) → k ≡ i → k < 15232 → is_data_at c (suc i) ≡ true → slice_get groups k ≡ Some (take m (drop (m * (q + data_count c i)) bytes))
    at k i e l d =
        let is : is_data_at c (suc k) ≡ true = ap (λ i. is_data_at c (suc i)) e ∙ d in
        let one : suc k - 1 ≡ k = omega arith in
        ap (slice_get groups) (sym one)
        ∙ each (suc k) (omega arith) (omega arith) (ltb-true ((suc k * c) % 15232) c is)
        ∙ ap (λ x. Some (take m (drop (m * x) bytes))) (place_is c q k h is)
        ∙ ap (λ i. Some (take m (drop (m * (q + data_count c i)) bytes))) e
