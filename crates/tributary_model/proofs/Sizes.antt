-- How many bytes the data groups of a turn have.
use Rattle.std.proofs.Common.{◌≡◌, ℕ, suc, ◌+◌, ◌*◌, ◌≤◌, List, [], ◌∷◌, ◌++◌, length, Bool, true, false, cond, refl, ap, ◌∙◌, arith, length-append}
use Rattle.std.specs.Prelude.{All}
use Rattle.std.specs.List.{flat_map, enumerate_from}
use Rattle.gmp_rule.specs.DataRule.{is_data_at, data_count}
use Rattle.gmp_rule.proofs.CountLaw.{data_count_all}
use Rattle.tributary_model.specs.Emission.{data_bytes}

pub All_first : {X : Type 0} (P : X → Type 0) (x : X) (xs : List X) → All P (x ∷ xs) → P x
All_first P x xs h = h 0 x (omega arith)

pub All_rest : {X : Type 0} (P : X → Type 0) (x : X) (xs : List X) → All P (x ∷ xs) → All P xs
All_rest P x xs h = λ k d l. h (suc k) d (omega arith)

-- a group has m bytes where it is data, else none count
group_length : (m : ℕ) (t : Bool) (g : List ℕ) → length g ≡ m → length (cond t g []) ≡ m * cond t 1 0
group_length m true g h = h ∙ omega arith
group_length m false g h = omega arith

-- the data groups from the one after s on
data_length_from : (m c s j : ℕ) (groups : List (List ℕ)) → j ≡ suc s → All (λ g. length g ≡ m) groups
    → length (flat_map (λ p. cond (is_data_at c (p.0)) p.1 []) (enumerate_from j groups)) + m * data_count c s ≡ m * data_count c (s + length groups)
data_length_from m c s j [] e h =
    let same : m * data_count c s ≡ m * data_count c (s + 0) = ap (λ n. m * data_count c n) (let f : s ≡ s + 0 = omega arith in f) in
    omega arith
data_length_from m c s j (g ∷ groups) e h =
    let rest = data_length_from m c (suc s) (j + 1) groups (omega arith) (All_rest (λ g. length g ≡ m) g groups h) in
    let head : length (cond (is_data_at c j) g []) ≡ m * cond (is_data_at c j) 1 0 = group_length m (is_data_at c j) g (All_first (λ g. length g ≡ m) g groups h) in
    let turn : cond {A = ℕ} (is_data_at c j) 1 0 ≡ cond {A = ℕ} (is_data_at c (suc s)) 1 0 = ap (λ j. cond {A = ℕ} (is_data_at c j) 1 0) e in
    let split : length (cond (is_data_at c j) g [] ++ flat_map (λ p. cond (is_data_at c (p.0)) p.1 []) (enumerate_from (j + 1) groups))
    ≡ length (cond (is_data_at c j) g []) + length (flat_map (λ p. cond (is_data_at c (p.0)) p.1 []) (enumerate_from (j + 1) groups)) = length-append (cond (is_data_at c j) g []) _ in
    let places : suc s + length groups ≡ s + suc (length groups) = omega arith in
    let end : m * data_count c (suc s + length groups) ≡ m * data_count c (s + suc (length groups)) = ap (λ n. m * data_count c n) places in
    let grown : m * (data_count c s + cond (is_data_at c (suc s)) 1 0) ≡ m * data_count c s + m * cond (is_data_at c (suc s)) 1 0 = omega arith in
    let same_bit : m * cond (is_data_at c j) 1 0 ≡ m * cond (is_data_at c (suc s)) 1 0 = ap (λ x. m * x) turn in
    omega arith

-- a whole multiframe has m * c data bytes
pub data_length : (m c : ℕ) (groups : List (List ℕ)) → c ≤ 15232 → length groups ≡ 15232 → All (λ g. length g ≡ m) groups → length (data_bytes c groups) ≡ m * c
unfolding data_bytes
data_length m c groups hc n h =
    let all = data_length_from m c 0 1 groups refl h in
    let places : 0 + length groups ≡ 15232 = omega arith in
    let law : data_count c (0 + length groups) ≡ c = ap (data_count c) places ∙ data_count_all c hc in
    let end : m * data_count c (0 + length groups) ≡ m * c = ap (λ x. m * x) law in
    let start : m * 0 ≡ 0 = omega arith in
    omega arith
