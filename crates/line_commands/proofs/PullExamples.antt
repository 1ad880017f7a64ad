-- Worked lines, against the definition of the turns that `pull` carries out.
use Rattle.std.proofs.Common.{◌≡◌, ◌<◌, ℕ, zero, suc, ◌+◌, ◌%◌, List, [], ◌∷◌, true, false, refl, inl, arith, lit≤}
use Rattle.multiframe.specs.LineTurns.{least_start, line_state, has_ended}
use Rattle.tributary_line.proofs.TurnsDone.{turns_all}
use Rattle.tributary_line.specs.TurnsDone.{turns_of}

-- the MFAS bytes of n frames from e on
abbrev from_to : ℕ → ℕ → List ℕ
from_to e zero = []
from_to e (suc n) = e % 256 ∷ from_to (e + 1) n

forty_goes_on : (s : ℕ) → s < 6 → has_ended (line_state 8 (from_to 0 40) s) ≡ false
unfolding least_start line_state
forty_goes_on zero below = refl
forty_goes_on (suc zero) below = refl
forty_goes_on (suc (suc zero)) below = refl
forty_goes_on (suc (suc (suc zero))) below = refl
forty_goes_on (suc (suc (suc (suc zero)))) below = refl
forty_goes_on (suc (suc (suc (suc (suc zero))))) below = refl
forty_goes_on (suc (suc (suc (suc (suc (suc s)))))) below = absurd (omega (arith, below))

forty_ends : has_ended (line_state 8 (from_to 0 40) 6) ≡ true
unfolding least_start line_state
forty_ends = refl

-- 40 frames from MFAS 0: five turns with a multiframe, and the sixth, in which the line ends
forty : turns_of 8 (from_to 0 40) ≡ 0 ∷ 1 ∷ 2 ∷ 3 ∷ 4 ∷ 5 ∷ []
forty = turns_all 8 (from_to 0 40) 6 (lit≤ tt) forty_goes_on (inl forty_ends)

empty_goes_on : (s : ℕ) → s < 1 → has_ended (line_state 8 [] s) ≡ false
unfolding least_start line_state
empty_goes_on zero below = refl
empty_goes_on (suc s) below = absurd (omega (arith, below))

empty_ends : has_ended (line_state 8 [] 1) ≡ true
unfolding least_start line_state
empty_ends = refl

-- an empty line: the one turn in which it ends
empty : turns_of 8 [] ≡ 0 ∷ []
empty = turns_all 8 [] 1 (lit≤ tt) empty_goes_on (inl empty_ends)
