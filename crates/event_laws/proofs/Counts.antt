-- The counts of a view are of 64 bits.
use Rattle.std.proofs.Common.{◌<◌, ◌≤◌, ◌+◌, ◌-◌, ◌^◌, min, ℕ, Bool, true, false, All, List, [], ◌∷◌, length, filter, arith}
use Rattle.std.specs.Prelude.{cond, not}
use Rattle.std.specs.List.{range_with_len}
use Rattle.std.proofs.lemmas.List.Elements.{All-filter, All-weaker}
use Rattle.std.proofs.lemmas.List.FromFn.{get_or-range_with_len, length-range_with_len}
use Rattle.multiframe.specs.LineTurns.{has_ended, line_state}
use Rattle.line_side.specs.LineForm.{LineForm}
use Rattle.line_side.specs.Reader.{rest_of}
use Rattle.line_side.specs.declared.ending.Ending.{Ending}
use Rattle.line_side.specs.declared.ending.Ending.TheVariants.{Open, Seen, Died}
use Rattle.line_view.specs.ViewText.{seen_at}
use Rattle.tributary_line.specs.TurnsDone.{turns_of}
use Rattle.view_events.specs.ViewLines.{IsCount, IsViewLine}
use Rattle.event_laws.specs.ViewOf.{turn_of}

-- ---- turns

-- the numbers of a range are below its end
pub range_below : (a n : ℕ) → All (λ t. t < a + n) (range_with_len a n)
range_below a n k d lt =
    let inside : k < n = omega (arith, lt, length-range_with_len a n) in
    omega (arith, inside, get_or-range_with_len a n k d inside)

filter_few : (p : ℕ → Bool) (xs : List ℕ) → length (filter p xs) ≤ length xs
filter_few p [] = omega arith
filter_few p (x ∷ xs) = go (p x) (filter_few p xs)
  where
    go : (b : Bool) → length (filter p xs) ≤ length xs → length (cond {A = List ℕ} b (x ∷ filter p xs) (filter p xs)) ≤ length (x ∷ xs)
    go true few = omega (arith, few)
    go false few = omega (arith, few)

few_of : (p : ℕ → Bool) (n : ℕ) → length (filter p (range_with_len 0 n)) ≤ n
few_of p n = omega (arith, filter_few p (range_with_len 0 n), length-range_with_len 0 n)

below_of : (p : ℕ → Bool) (n : ℕ) → All (λ t. t < n) (filter p (range_with_len 0 n))
below_of p n = All-filter p (λ t. t < n) (range_with_len 0 n)
    (All-weaker (λ t. t < 0 + n) (λ t. t < n) (λ t h. omega (arith, h)) (range_with_len 0 n) (range_below 0 n))

-- at most 16,384 turns are told
pub turns_few : (size : ℕ) (ms : List ℕ) → length (turns_of size ms) ≤ 16384
unfolding turns_of
turns_few size ms = few_of (λ t. not (has_ended (line_state size ms t))) 16384

-- each is one of the first 16,384
pub turns_below : (size : ℕ) (ms : List ℕ) → All (λ t. t < 16384) (turns_of size ms)
unfolding turns_of
turns_below size ms = below_of (λ t. not (has_ended (line_state size ms t))) 16384

-- ---- the line of a turn, and the last one

grown : (a b : ℕ) → IsCount (min a (2 ^ 64 - 1) - min b (2 ^ 64 - 1))
grown a b = omega arith

-- the numbers of a turn are counts
pub turn_counts : (form : LineForm) (available : List ℕ) (t : ℕ) → t < 16384 → IsViewLine (turn_of (t + 1) (seen_at form available t))
turn_counts form available t few = record {
  number = omega (arith, few);
  frames_are = grown _ _;
  lead_in = grown _ _;
  fas = grown _ _;
  sm = grown _ _;
  pm = grown _ _;
}

-- fewer bytes than a frame stand behind the last whole one
pub rest_counts : (ending : Ending) (available : List ℕ) → IsCount (rest_of ending available)
rest_counts Seen available = omega arith
rest_counts Open available = omega arith
rest_counts Died available = omega arith
