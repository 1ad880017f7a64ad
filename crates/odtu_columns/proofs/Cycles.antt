-- The columns of a slot by cycles: one in each run of as many columns as the line has slots.
use Rattle.std.proofs.Common.{◌≡◌, ◌≢◌, ℕ, zero, suc, ◌+◌, ◌-◌, ◌*◌, ◌%◌, ◌<◌, ◌≤◌, Bool, true, false, [], ◌∷◌, ◌++◌, map, refl, ap, sym, ◌∙◌, arith}
use Rattle.std.proofs.Math.Dec.{eqb}
use Rattle.std.proofs.lemmas.Bool.{ne_eqb}
use Rattle.std.proofs.lemmas.Bool.Decides.{nat_tests}
use Rattle.std.specs.List.{range_with_len, filter}
use Rattle.std.proofs.lemmas.Bool.{cond-true, cond-false}
use Rattle.std.proofs.lemmas.List.Elements.{filter-append}
use Rattle.std.proofs.Math.Nat.{mul-add-mod_self_left, mod-eq_of_lt}
use Rattle.odtu_columns.specs.Columns.{slot_of, columns_of}

-- so many numbers, and then more of them
pub range-append : (a m n : ℕ) → range_with_len a (m + n) ≡ range_with_len a m ++ range_with_len (a + m) n
range-append a zero n = ap (λ k. range_with_len a k) (let e : 0 + n ≡ n = omega arith in e) ∙ ap (λ b. range_with_len b n) (let e : a ≡ a + 0 = omega arith in e)
range-append a (suc m) n =
    ap (range_with_len a) (let e : suc m + n ≡ suc (m + n) = omega arith in e)
    ∙ ap (λ xs. a ∷ xs) (range-append (a + 1) m n)
    ∙ ap (λ b. a ∷ (range_with_len (a + 1) m ++ range_with_len b n)) (let e : a + 1 + m ≡ a + suc m = omega arith in e)

-- a test that each number of a range fails
pub filter_none : (test : ℕ → Bool) (a n : ℕ) → ((i : ℕ) → i < n → test (a + i) ≡ false) → filter test (range_with_len a n) ≡ []
filter_none test a zero fails = refl
filter_none test a (suc n) fails =
    let first : test a ≡ false = ap test (let e : a ≡ a + 0 = omega arith in e) ∙ fails 0 (omega arith) in
    cond-false (test a) (a ∷ filter test (range_with_len (a + 1) n)) (filter test (range_with_len (a + 1) n)) first
    ∙ filter_none test (a + 1) n (λ i h. ap test (let e : a + 1 + i ≡ a + (i + 1) = omega arith in e) ∙ fails (i + 1) (omega arith))

-- a test that one number of a range passes
pub filter_one : (test : ℕ → Bool) (a n f : ℕ) → f < n → test (a + f) ≡ true → ((i : ℕ) → i < n → i ≢ f → test (a + i) ≡ false)
    → filter test (range_with_len a n) ≡ (a + f) ∷ []
filter_one test a n f low passes fails =
    let rest = n - f - 1 in
    ap (λ k. filter test (range_with_len a k)) (let e : n ≡ f + suc rest = omega arith in e)
    ∙ ap (filter test) (range-append a f (suc rest))
    ∙ filter-append test (range_with_len a f) (range_with_len (a + f) (suc rest))
    ∙ ap (λ xs. xs ++ filter test (range_with_len (a + f) (suc rest))) (filter_none test a f (λ i h. fails i (omega arith) (omega arith)))
    ∙ cond-true (test (a + f)) ((a + f) ∷ filter test (range_with_len (a + f + 1) rest)) (filter test (range_with_len (a + f + 1) rest)) passes
    ∙ ap (λ xs. (a + f) ∷ xs) (filter_none test (a + f + 1) rest (λ i h.
    ap test (let e : a + f + 1 + i ≡ a + (f + 1 + i) = omega arith in e) ∙ fails (f + 1 + i) (omega arith) (omega arith)))

-- the slots of a cycle's columns, in order
slot_in_cycle : (slots x i : ℕ) → i < slots → slot_of slots (17 + slots * x + i) ≡ i + 1
slot_in_cycle slots x i h =
    ap (λ n. n % slots + 1) (let e : 17 + slots * x + i - 17 ≡ slots * x + i = omega arith in e)
    ∙ ap (λ n. n + 1) (mul-add-mod_self_left slots x i ∙ mod-eq_of_lt h)

same_eqb : (a b : ℕ) → a ≡ b → eqb a b ≡ true
same_eqb a b e = grind (arith, nat_tests)

pub one_column : (slots slot x : ℕ) → 1 ≤ slot → slot ≤ slots
    → filter (λ column. eqb (slot_of slots column) slot) (range_with_len (17 + slots * x) slots) ≡ (16 + slots * x + slot) ∷ []
one_column slots slot x low high =
    filter_one (λ column. eqb (slot_of slots column) slot) (17 + slots * x) slots (slot - 1) (omega arith)
    (same_eqb (slot_of slots (17 + slots * x + (slot - 1))) slot (slot_in_cycle slots x (slot - 1) (omega arith) ∙ (let e : slot - 1 + 1 ≡ slot = omega arith in e)))
    (λ i h other. ne_eqb (slot_of slots (17 + slots * x + i)) slot (λ same. other (let e : i + 1 ≡ slot = sym (slot_in_cycle slots x i h) ∙ same in omega arith)))
    ∙ ap (λ c. c ∷ []) (let e : 17 + slots * x + (slot - 1) ≡ 16 + slots * x + slot = omega arith in e)

pub cycle_columns : (slots slot x n : ℕ) → 1 ≤ slot → slot ≤ slots
    → filter (λ column. eqb (slot_of slots column) slot) (range_with_len (17 + slots * x) (slots * n)) ≡ map (λ cycle. 16 + slots * cycle + slot) (range_with_len x n)
cycle_columns slots slot x zero low high = ap (λ k. filter (λ column. eqb (slot_of slots column) slot) (range_with_len (17 + slots * x) k)) (let e : slots * 0 ≡ 0 = omega arith in e)
cycle_columns slots slot x (suc n) low high =
    let test : ℕ → Bool = λ column. eqb (slot_of slots column) slot in
    ap (λ k. filter test (range_with_len (17 + slots * x) k)) (let e : slots * suc n ≡ slots + slots * n = omega arith in e)
    ∙ ap (filter test) (range-append (17 + slots * x) slots (slots * n))
    ∙ filter-append test (range_with_len (17 + slots * x) slots) (range_with_len (17 + slots * x + slots) (slots * n))
    ∙ ap (λ xs. xs ++ filter test (range_with_len (17 + slots * x + slots) (slots * n))) (one_column slots slot x low high)
    ∙ ap (λ a. (16 + slots * x + slot) ∷ filter test (range_with_len a (slots * n))) (let e : 17 + slots * x + slots ≡ 17 + slots * (x + 1) = omega arith in e)
    ∙ ap (λ xs. (16 + slots * x + slot) ∷ xs) (cycle_columns slots slot (x + 1) n low high)

-- the columns of a slot: one in each of n cycles
pub columns_of-cycles : (slots slot n : ℕ) → 1 ≤ slot → slot ≤ slots → slots * n ≡ 3808
    → columns_of slots slot ≡ map (λ cycle. 16 + slots * cycle + slot) (range_with_len 0 n)
unfolding columns_of
columns_of-cycles slots slot n low high all =
    let test : ℕ → Bool = λ column. eqb (slot_of slots column) slot in
    ap (λ k. filter test (range_with_len 17 k)) (sym all)
    ∙ ap (λ a. filter test (range_with_len a (slots * n))) (let e : 17 ≡ 17 + slots * 0 = omega arith in e)
    ∙ cycle_columns slots slot 0 n low high
