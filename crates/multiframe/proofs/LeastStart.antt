-- The least start is a start, and there is none before it.
use Rattle.std.proofs.Common.{◌≡◌, ℕ, zero, suc, ◌+◌, ◌<◌, Bool, true, false, List, Option, Some, None, refl, arith, below_more}
use Rattle.multiframe.specs.LineTurns.{is_start, least_or, least_start}

-- no multiframe may begin at any of the k frames from i on
pub record NoStart (size : ℕ) (ms : List ℕ) (i k : ℕ) : Type 0 where
  pub none : (m : ℕ) → m < k → is_start size ms (i + m) ≡ false

-- n is the least of the numbers below k such that a multiframe may begin at frame i + n
pub record IsLeast (size : ℕ) (ms : List ℕ) (i k n : ℕ) : Type 0 where
  pub within : n < k
  pub starts : is_start size ms (i + n) ≡ true
  pub before : NoStart size ms i n

-- what is said of an answer to that question
unfoldable pub LeastIs : ℕ → List ℕ → (i k : ℕ) → Option ℕ → Type 0
LeastIs size ms i k None = NoStart size ms i k
LeastIs size ms i k (Some n) = IsLeast size ms i k n

step : (size : ℕ) (ms : List ℕ) (i k : ℕ) (least : Option ℕ) (here : Bool) → is_start size ms (i + k) ≡ here → LeastIs size ms i k least → LeastIs size ms i (suc k) (least_or least here k)
unfolding LeastIs
step size ms i k (Some n) here e h = record { within = let w = h.within in omega arith; starts = h.starts; before = h.before }
step size ms i k None true e h = record { within = omega arith; starts = e; before = h }
step size ms i k None false e h = record { none = λ m below. below_more (λ m. is_start size ms (i + m) ≡ false) k h.none e m (omega arith) }

-- what is said of the least start, for every list and every number of frames
pub least_is : (size : ℕ) (ms : List ℕ) (i k : ℕ) → LeastIs size ms i k (least_start size ms i k)
unfolding least_start LeastIs
least_is size ms i zero = record { none = λ m below. absurd (omega arith) }
least_is size ms i (suc k) = step size ms i k (least_start size ms i k) (is_start size ms (i + k)) refl (least_is size ms i k)
