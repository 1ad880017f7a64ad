-- Sums over the numbers of ports.
use Rattle.std.proofs.Common.{◌≡◌, ◌≢◌, ◌<◌, ◌+◌, ℕ, zero, suc, get_or, replicate, arith, refl, sym, ◌∙◌, inl, inr, add-one}
use Rattle.std.proofs.lemmas.Bool.Decides.{eqb_tells}
use Rattle.turn_pieces.specs.Pieces.{sum_below}

pub sum_zero : (f : ℕ → ℕ) → sum_below f 0 ≡ 0
unfolding sum_below
sum_zero f = refl

pub sum_suc : (f : ℕ → ℕ) (n : ℕ) → sum_below f (suc n) ≡ sum_below f n + f n
unfolding sum_below
sum_suc f n = refl

pub sum_next : (f : ℕ → ℕ) (n : ℕ) → sum_below f (n + 1) ≡ sum_below f n + f n
sum_next f n = rw add-one (sum_suc f n)

pub sum_same : (f g : ℕ → ℕ) (n : ℕ) → ((i : ℕ) → i < n → f i ≡ g i) → sum_below f n ≡ sum_below g n
sum_same f g zero h = sum_zero f ∙ sym (sum_zero g)
sum_same f g (suc n) h = omega (arith, sum_suc f n, sum_suc g n, h n (omega arith), sum_same f g n (λ i lt. h i (omega arith)))

-- one term is one less
pub sum_less : (f g : ℕ → ℕ) (j n : ℕ) → j < n → f j ≡ g j + 1 → ((i : ℕ) → i ≢ j → f i ≡ g i) → sum_below f n ≡ sum_below g n + 1
sum_less f g j zero h one same = absurd (omega arith)
sum_less f g j (suc n) h one same = elim (eqb_tells j n) [
  | inl t ↦
      let rest : sum_below f n ≡ sum_below g n = sum_same f g n (λ i lt. same i (λ e. absurd (omega arith))) in
      let last : f n ≡ g n + 1 = rw t.1 at one in
      omega (arith, sum_suc f n, sum_suc g n, rest, last)
  | inr t ↦
      let rest : sum_below f n ≡ sum_below g n + 1 = sum_less f g j n (omega arith) one same in
      let last : f n ≡ g n = same n (λ e. t.1 (sym e)) in
      omega (arith, sum_suc f n, sum_suc g n, rest, last)
]

pub sum_none : (f : ℕ → ℕ) (n : ℕ) → ((i : ℕ) → i < n → f i ≡ 0) → sum_below f n ≡ 0
sum_none f zero h = sum_zero f
sum_none f (suc n) h = omega (arith, sum_suc f n, h n (omega arith), sum_none f n (λ i lt. h i (omega arith)))

-- where the sum is zero each term is
pub none_of : (f : ℕ → ℕ) (n i : ℕ) → sum_below f n ≡ 0 → i < n → f i ≡ 0
none_of f zero i none lt = absurd (omega arith)
none_of f (suc n) i none lt = elim (eqb_tells i n) [
  | inl t ↦ rw t.1 (omega (arith, sum_suc f n))
  | inr t ↦ none_of f n i (omega (arith, sum_suc f n)) (omega arith)
]

-- term by term one sum and another make a third
pub sum_split : (f g h : ℕ → ℕ) (n : ℕ) → ((i : ℕ) → i < n → f i + g i ≡ h i) → sum_below f n + sum_below g n ≡ sum_below h n
sum_split f g h zero e = omega (arith, sum_zero f, sum_zero g, sum_zero h)
sum_split f g h (suc n) e = omega (arith, sum_suc f n, sum_suc g n, sum_suc h n, e n (omega arith), sum_split f g h n (λ i lt. e i (omega arith)))

-- a list of one number alone, read by that number at any place
pub alike_at : (n i d : ℕ) → get_or (replicate n d) i d ≡ d
alike_at zero i d = refl
alike_at (suc n) zero d = refl
alike_at (suc n) (suc i) d = alike_at n i d
