use Rattle.std.proofs.Common.{◌≡◌, ℕ, ◌+◌, ◌-◌, ◌*◌, ◌<◌, get_or, length}
use Rattle.lane_kernels.proofs.several.take_halves.Given as goal

abbrev pub invariant-loop-cycle : goal.invariant-loop-cycle
invariant-loop-cycle l = (j p : ℕ) → j < l.cycle → p < length l.slots → get_or l.into (length l.slots * j + p) 0 ≡ get_or l.row (32 * j + (get_or l.slots p 0 - 1)) 0
