use Rattle.std.proofs.Common.{◌≡◌, ℕ, ◌+◌, ◌*◌, ◌<◌, get_or}
use Rattle.lane_kernels.proofs.one_slot.take_blocks.Given as goal

abbrev pub invariant-loop-block : goal.invariant-loop-block
invariant-loop-block l = (j : ℕ) → j < 16 * l.block → get_or l.into j 0 ≡ get_or l.row (8 * j + l.first) 0
