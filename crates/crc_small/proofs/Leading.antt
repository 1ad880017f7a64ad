-- The first bytes of a message, taken in behind zeros.
use Rattle.std.proofs.Common.{◌≡◌, ℕ, ◌+◌, ◌-◌, ◌^◌, ◌<◌, List, true, get_or, take, drop, refl, ap, ◌∙◌, arith}
use Rattle.std.specs.Prelude.{◌==◌, nat_lt}
use Rattle.std.proofs.lemmas.Bool.{agree_below_at, eqb-true, ltb-true}
use Rattle.std.proofs.lemmas.List.{get_or-take, get_or-drop}
use Rattle.crc_small.specs.declared.frame_check.TheConstants.{BEFORE_ZEROS}
use Rattle.crc_small.specs.Steps.Folding.{after_some}
use Rattle.crc_small.proofs.Linear.{zeros}
use Rattle.crc_small.proofs.Words.{z}
use Rattle.crc_small.proofs.Folding.{zs, some_zeros, some_split, some_same}

-- the register that zeros turn into one of ones, for so many bytes behind them
before : ℕ → ℕ
before few = get_or BEFORE_ZEROS few 0

ones_after : (few : ℕ) → few < 16 → zs (16 - few) (before few) ≡ 0xFFFFFFFF
unfolding before zs z zeros
ones_after few h = eqb-true _ _ (agree_below_at (λ few. zs (16 - few) (before few) == 0xFFFFFFFF) (λ few. true) 16 few refl h)

before-lt : (few : ℕ) → few < 16 → before few < 2 ^ 32
unfolding before
before-lt few h = ltb-true _ _ (agree_below_at (λ few. nat_lt (before few) (2 ^ 32)) (λ few. true) 16 few refl h)

-- sixteen bytes of a block of zeros and the first block of a message, which end with so many of its bytes
pub led_by_zeros : (bytes led : List ℕ) (few : ℕ) → few < 16
    → ((j : ℕ) → j < 16 → get_or led j 0 ≡ 0) → ((j : ℕ) → j < 16 → get_or led (16 + j) 0 ≡ get_or bytes j 0)
    → after_some (λ i. get_or (take 16 (drop few led)) i 0) 0 16 (get_or BEFORE_ZEROS few 0) ≡ after_some (λ i. get_or bytes i 0) 0 few 0xFFFFFFFF
unfolding before
led_by_zeros bytes led few h none same =
    let n = 16 - few in
    let part = λ (i : ℕ). get_or (take 16 (drop few led)) i 0 in
    let all : 16 ≡ n + few = omega arith in
    let at : (j : ℕ) → j < 16 → part j ≡ get_or led (few + j) 0 = λ j l. get_or-take 16 (drop few led) j 0 l ∙ get_or-drop few led j 0 in
    ap (λ m. after_some part 0 m (before few)) all
    ∙ some_split part n few (before few)
    ∙ ap (after_some (λ j. part (n + j)) 0 few)
    (some_zeros part n (before few) (before-lt few h) (λ j l. at j (omega arith) ∙ none (few + j) (omega arith)) ∙ ones_after few h)
    ∙ some_same (λ j. part (n + j)) (λ i. get_or bytes i 0) 0 0 few 0xFFFFFFFF (λ j l.
    let first : n + (0 + j) ≡ n + j = omega arith in
    let place : few + (n + j) ≡ 16 + j = omega arith in
    let plain : j ≡ 0 + j = omega arith in
    ap part first ∙ at (n + j) (omega arith) ∙ ap (λ k. get_or led k 0) place ∙ same j (omega arith) ∙ ap (λ k. get_or bytes k 0) plain)
