-- The totals of the numbers of bytes that a sender takes, and the whole groups in them.
use Rattle.std.proofs.Common.{◌≡◌, ◌⊎◌, inl, inr, ℕ, zero, suc, ◌+◌, ◌*◌, ◌/◌, ◌%◌, ◌-◌, ◌<◌, ◌≤◌, List, [], ◌∷◌, ◌++◌, length, take, drop, get_or, refl, ap, ◌∙◌, sym, subst, arith}
use Rattle.std.specs.Prelude.{sum, slice_range}
use Rattle.std.proofs.lemmas.List.{take-take, length-take-le}
use Rattle.std.proofs.lemmas.List.Sums.{sum_by_more, sum_by-cons, sum_by-take-le}
use Rattle.std.proofs.Math.Nat.{mul-le-mul_left, lt-mul-div-succ, div-add-mod, div-add-mod', le-div_iff_mul-le}
use Rattle.gmp_rule.specs.DataRule.{IsData}
use Rattle.tributary_model.specs.Carries.{sent, cm_in, IsSteady}
use Rattle.tributary_model.proofs.Sizes.{All_first}
use Rattle.tributary_model.proofs.Ranges.{front_of, back_of, joined}

-- ---- totals

pub sent_next : (p : List ℕ) (i : ℕ) → i < length p → sent p (i + 1) ≡ sent p i + get_or p i 0
sent_next p i h = sum_by_more (λ x. x) p i 0 h

pub sent_up : (p : List ℕ) (i j : ℕ) → i ≤ j → sent p i ≤ sent p j
sent_up p i j h =
    let same : sum (take i (take j p)) ≡ sum (take i p) = ap sum (take-take i j p h) in
    let less : sum (take i (take j p)) ≤ sum (take j p) = sum_by-take-le (λ x. x) (take j p) i in
    omega arith

-- ---- whole groups and what is left

-- with a bytes up to one turn, b up to the next and c up to the one after: what is pending and the front of what is
-- extracted
pub emitted_pieces : (xs : List ℕ) (m a b c : ℕ) → a ≤ m * (b / m) → b ≤ m * (c / m)
    → slice_range xs a (m * (b / m)) ++ take (b % m) (slice_range xs (m * (b / m)) (m * (c / m))) ≡ slice_range xs a b
emitted_pieces xs m a b c h k =
    let split : m * (b / m) + b % m ≡ b = div-add-mod b m in
    ap (λ ys. slice_range xs a (m * (b / m)) ++ ys) (front_of xs (m * (b / m)) (m * (c / m)) (b % m) (omega arith))
    ∙ ap (λ e. slice_range xs a (m * (b / m)) ++ slice_range xs (m * (b / m)) e) split
    ∙ joined xs a (m * (b / m)) b h (omega arith)

pub left_piece : (xs : List ℕ) (m b c : ℕ) → b ≤ m * (c / m) → drop (b % m) (slice_range xs (m * (b / m)) (m * (c / m))) ≡ slice_range xs b (m * (c / m))
left_piece xs m b c k =
    let split : m * (b / m) + b % m ≡ b = div-add-mod b m in
    back_of xs (m * (b / m)) (m * (c / m)) (b % m) (omega arith) ∙ ap (λ s. slice_range xs s (m * (c / m))) split

-- ---- steady numbers

-- a number of a steady list is at least m, or no byte came up to it
steady_at : (m : ℕ) (p : List ℕ) (i : ℕ) → IsSteady m p → i < length p → ((sent p i ≡ 0) × (get_or p i 0 ≡ 0)) ⊎ (m ≤ get_or p i 0)
steady_at m [] i s h = absurd (omega arith)
steady_at m (n ∷ p) zero (inl s) h = inl (refl, s.0)
steady_at m (n ∷ p) zero (inr s) h = inr (All_first (λ x. m ≤ x) n p s)
steady_at m (n ∷ p) (suc i) (inr s) h = inr (s (suc i) 0 h)
steady_at m (n ∷ p) (suc i) (inl s) h = go (steady_at m p i s.1 (omega arith))
  where
    go : ((sent p i ≡ 0) × (get_or p i 0 ≡ 0)) ⊎ (m ≤ get_or p i 0) → ((sum (n ∷ take i p) ≡ 0) × (get_or p i 0 ≡ 0)) ⊎ (m ≤ get_or p i 0)
    go (inl e) = let total = sum_by-cons (λ x. x) n (take i p) in let none = s.0 in let before = e.0 in inl (omega arith, e.1)
    go (inr e) = inr e

reaches : (m a n : ℕ) → 0 < m → ((a ≡ 0) × (n ≡ 0)) ⊎ (m ≤ n) → a ≤ m * ((a + n) / m)
reaches m a n h (inl e) = let none = e.0 in omega arith
reaches m a n h (inr e) =
    let past : a + n < m * ((a + n) / m + 1) = lt-mul-div-succ (a + n) h in
    let split : m * ((a + n) / m + 1) ≡ m * ((a + n) / m) + m = omega arith in
    omega arith

steady_reaches : (m : ℕ) (p : List ℕ) (i : ℕ) → 0 < m → IsSteady m p → i < length p → sent p i ≤ m * (sent p (i + 1) / m)
steady_reaches m p i h s l = subst (λ n. sent p i ≤ m * (n / m)) (sym (sent_next p i l)) (reaches m (sent p i) (get_or p i 0) h (steady_at m p i s l))

-- of a front of the numbers
pub sent_front : (p : List ℕ) (n i : ℕ) → i ≤ n → sent (take n p) i ≡ sent p i
sent_front p n i h = ap sum (take-take i n p h)

-- the whole groups of a turn and those before it hold all bytes of the turns before it, as long as the numbers are
-- steady
pub steady_front_reaches : (m : ℕ) (p : List ℕ) (n i : ℕ) → 0 < m → n ≤ length p → IsSteady m (take n p) → i < n → sent p i ≤ m * (sent p (suc i) / m)
steady_front_reaches m p n i h k s l =
    let long : length (take n p) ≡ n = length-take-le n p k in
    let next : i + 1 ≡ suc i = omega arith in
    subst (λ x. x ≤ m * (sent p (suc i) / m)) (sent_front p n i (omega arith))
    (subst (λ x. sent (take n p) i ≤ m * (x / m)) (ap (sent (take n p)) next ∙ sent_front p n (suc i) (omega arith)) (steady_reaches m (take n p) i h s (omega arith)))

pub steady_before : (m : ℕ) (p : List ℕ) (n i : ℕ) → 0 < m → n ≤ length p → IsSteady m (take n p) → i ≤ n → sent p (i - 1) ≤ m * (sent p i / m)
steady_before m p n zero h k s l = omega arith
steady_before m p n (suc i) h k s l = subst (λ x. sent p x ≤ m * (sent p (suc i) / m)) (let e : i ≡ suc i - 1 = omega arith in e) (steady_front_reaches m p n i h k s l)

pub div_up : (m a b : ℕ) → 0 < m → a ≤ b → a / m ≤ b / m
div_up m a b h k = (le-div_iff_mul-le h).1 (let e = div-add-mod' a m in omega arith)

-- a turn's number leads from the whole groups before it to those after it
pub groups_next : (m : ℕ) (p : List ℕ) (i : ℕ) → 0 < m → i < length p → sent p i / m + cm_in m p i ≡ sent p (i + 1) / m
groups_next m p i h l =
    let more : sent p i ≤ sent p (i + 1) = (let e = sent_next p i l in omega arith) in
    let up : sent p i / m ≤ sent p (i + 1) / m = div_up m (sent p i) (sent p (i + 1)) h more in
    omega arith

-- those groups are among the bytes up to the turn
pub groups_within : (m a b : ℕ) → 0 < m → a ≤ b → m * (a / m + (b / m - a / m)) ≤ b
groups_within m a b h k =
    let up : a / m ≤ b / m = div_up m a b h k in
    let same : m * (a / m + (b / m - a / m)) ≡ m * (b / m) = ap (λ x. m * x) (let e : a / m + (b / m - a / m) ≡ b / m = omega arith in e) in
    let split = div-add-mod b m in
    omega arith

-- a data group of a turn ends with the whole groups of the turn before
pub group_ends : (m q c j : ℕ) → IsData c j → j ≤ 15232 → m * (q + j * c / 15232 - 1) + m ≤ m * (q + c)
group_ends m q c j d h =
    let most : j * c ≤ 15232 * c = scale j c h in
    let few : j * c / 15232 ≤ c = omega arith in
    let some : 1 ≤ c = omega arith in
    let last : q + j * c / 15232 - 1 + 1 ≤ q + c = omega arith in
    let wide : m * (q + j * c / 15232 - 1 + 1) ≤ m * (q + c) = mul-le-mul_left m last in
    let split : m * (q + j * c / 15232 - 1 + 1) ≡ m * (q + j * c / 15232 - 1) + m = omega arith in
    omega arith
  where
    scale : (j c : ℕ) → j ≤ 15232 → j * c ≤ 15232 * c
    scale j c h = let e : c * j ≤ c * 15232 = mul-le-mul_left c h in omega arith
