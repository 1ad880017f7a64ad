-- The turns that are done of a line, as a walk does them.
use Rattle.std.proofs.Common.{◌≡◌, ◌<◌, ◌≤◌, ◌+◌, ◌-◌, ◌∙◌, ◌⊎◌, inl, inr, ℕ, zero, suc, Bool, true, false, cond, not, List, [], ◌∷◌, ◌++◌, length, filter, refl, ap, subst, arith, append-nil, length-append}
use Rattle.std.specs.List.{range_with_len}
use Rattle.std.proofs.lemmas.List.FromFn.{length-range_with_len}
use Rattle.multiframe.specs.LineTurns.{LineState, Hunting, Locked, Ended, line_state, after_turn, has_ended}
use Rattle.tributary_line.specs.TurnsDone.{turns_of}

-- of the numbers from a on, the first n of which pass, what passes is these and what passes of those from b on
passes_first : (p : ℕ → Bool) (a b n more most : ℕ) → most ≡ n + more → b ≡ a + n → ((x : ℕ) → a ≤ x → x < b → p x ≡ true)
    → filter p (range_with_len a most) ≡ range_with_len a n ++ filter p (range_with_len b more)
passes_first p a b zero more most e f all =
    let same : most ≡ more = omega arith in
    let here : a ≡ b = omega arith in
    ap (λ k. filter p (range_with_len a k)) same ∙ ap (λ k. filter p (range_with_len k more)) here
passes_first p a b (suc n) more most e f all =
    let one : most ≡ suc (n + more) = omega arith in
    let rest = filter p (range_with_len (a + 1) (n + more)) in
    let later = passes_first p (a + 1) b n more (n + more) refl (omega arith) (λ x low high. all x (omega arith) high) in
    ap (λ k. filter p (range_with_len a k)) one ∙ ap (λ t. cond t (a ∷ rest) rest) (all a (omega arith) (omega arith)) ∙ ap (λ xs. a ∷ xs) later

-- none passes
passes_none : (p : ℕ → Bool) (a n : ℕ) → ((x : ℕ) → a ≤ x → p x ≡ false) → filter p (range_with_len a n) ≡ []
passes_none p a zero none = refl
passes_none p a (suc n) none =
    let rest = filter p (range_with_len (a + 1) n) in
    ap (λ t. cond t (a ∷ rest) rest) (none a (omega arith)) ∙ passes_none p (a + 1) n (λ x low. none x (omega arith))

-- of the first turns, as many as this, those before which the line has not ended
turns_within : (size most : ℕ) → List ℕ → List ℕ
turns_within size most ms = filter (λ t. not (has_ended (line_state size ms t))) (range_with_len 0 most)

-- as many as may be
turns_of_is : (size : ℕ) (ms : List ℕ) → turns_of size ms ≡ turns_within size 16384 ms
unfolding turns_of turns_within
turns_of_is size ms = refl

-- a turn leaves a line ended
after_ended : (size : ℕ) (ms : List ℕ) (st : LineState) → has_ended st ≡ true → has_ended (after_turn size ms st) ≡ true
after_ended size ms (Hunting i) e = absurd (cc)
after_ended size ms (Locked lock) e = absurd (cc)
after_ended size ms Ended e = refl

-- a line that has ended stays so
pub stays_ended : (size : ℕ) (ms : List ℕ) (n k t : ℕ) → t ≡ n + k → has_ended (line_state size ms n) ≡ true → has_ended (line_state size ms t) ≡ true
unfolding line_state
stays_ended size ms n zero t e ended = let same : n ≡ t = omega arith in subst (λ i. has_ended (line_state size ms i) ≡ true) same ended
stays_ended size ms n (suc k) t e ended =
    let next : suc (n + k) ≡ t = omega arith in
    subst (λ i. has_ended (line_state size ms i) ≡ true) next (after_ended size ms (line_state size ms (n + k)) (stays_ended size ms n k (n + k) refl ended))

-- the first of them, before which the line has not ended
within_first : (size most : ℕ) (ms : List ℕ) (n : ℕ) → n ≤ most → ((s : ℕ) → s < n → has_ended (line_state size ms s) ≡ false)
    → turns_within size most ms ≡ range_with_len 0 n ++ filter (λ t. not (has_ended (line_state size ms t))) (range_with_len n (most - n))
unfolding turns_within
within_first size most ms n few going = passes_first (λ t. not (has_ended (line_state size ms t))) 0 n n (most - n) most (omega arith) (omega arith)
    (λ x low high. ap not (going x high))

-- all of them, where the line has ended after them or they are as many as may be
within_all : (size most : ℕ) (ms : List ℕ) (n : ℕ) → n ≤ most → ((s : ℕ) → s < n → has_ended (line_state size ms s) ≡ false)
    → (has_ended (line_state size ms n) ≡ true) ⊎ (n ≡ most) → turns_within size most ms ≡ range_with_len 0 n
within_all size most ms n few going last =
    within_first size most ms n few going ∙ ap (λ xs. range_with_len 0 n ++ xs) (none_after last) ∙ append-nil (range_with_len 0 n)
  where
    none_after : (has_ended (line_state size ms n) ≡ true) ⊎ (n ≡ most) → filter (λ t. not (has_ended (line_state size ms t))) (range_with_len n (most - n)) ≡ []
    none_after (inl ended) = passes_none (λ t. not (has_ended (line_state size ms t))) n (most - n)
        (λ x low. ap not (stays_ended size ms n (x - n) x (omega arith) ended))
    none_after (inr all) = let none : most - n ≡ 0 = omega arith in ap (λ k. filter (λ t. not (has_ended (line_state size ms t))) (range_with_len n k)) none

-- the first turns of a line, before none of which it has ended
pub turns_first : (size : ℕ) (ms : List ℕ) (n : ℕ) → n ≤ 16384 → ((s : ℕ) → s < n → has_ended (line_state size ms s) ≡ false)
    → (rest : List ℕ) × (turns_of size ms ≡ range_with_len 0 n ++ rest)
turns_first size ms n few going = (filter (λ t. not (has_ended (line_state size ms t))) (range_with_len n (16384 - n)), turns_of_is size ms ∙ within_first size 16384 ms n few going)

-- all turns, where the line has ended after them or they are as many as may be
pub turns_all : (size : ℕ) (ms : List ℕ) (n : ℕ) → n ≤ 16384 → ((s : ℕ) → s < n → has_ended (line_state size ms s) ≡ false)
    → (has_ended (line_state size ms n) ≡ true) ⊎ (n ≡ 16384) → turns_of size ms ≡ range_with_len 0 n
turns_all size ms n few going last = turns_of_is size ms ∙ within_all size 16384 ms n few going last

-- they are as many at least
pub turns_least : (size : ℕ) (ms : List ℕ) (n : ℕ) → n ≤ 16384 → ((s : ℕ) → s < n → has_ended (line_state size ms s) ≡ false) → n ≤ length (turns_of size ms)
turns_least size ms n few going =
    let first = turns_first size ms n few going in
    let long : length (turns_of size ms) ≡ length (range_with_len 0 n) + length first.0 = ap length first.1 ∙ length-append (range_with_len 0 n) first.0 in
    omega (arith, long, length-range_with_len 0 n)

-- how many these are
pub turns_count : (size : ℕ) (ms : List ℕ) (n : ℕ) → n ≤ 16384 → ((s : ℕ) → s < n → has_ended (line_state size ms s) ≡ false)
    → (has_ended (line_state size ms n) ≡ true) ⊎ (n ≡ 16384) → length (turns_of size ms) ≡ n
turns_count size ms n few going last = ap length (turns_all size ms n few going last) ∙ length-range_with_len 0 n
