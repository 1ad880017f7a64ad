use Rattle.std.proofs.Common.{◌≡◌, ℕ, ◌+◌, ◌-◌, ◌*◌, ◌<◌, get_or, length}
use Rattle.lane_kernels.proofs.several.take_pairs.Given as goal

abbrev pub invariant-loop-pair : goal.invariant-loop-pair
invariant-loop-pair l = (j p : ℕ) → j < 2 * l.pair → p < length l.slots → get_or l.into (length l.slots * j + p) 0 ≡ get_or l.row (8 * j + (get_or l.slots p 0 - 1)) 0
