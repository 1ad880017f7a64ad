use Rattle.std.proofs.Common.{◌≡◌, ℕ, ◌+◌, ◌*◌, ◌<◌, get_or}
use Rattle.lane_kernels.proofs.into_slots.split_thirty_two.Given as goal

abbrev pub invariant-loop-quarter : goal.invariant-loop-quarter
invariant-loop-quarter l = (k j : ℕ) → k < 8 * l.quarter → j < 119 → get_or l.into (119 * k + j) 0 ≡ get_or l.row (32 * j + k) 0
