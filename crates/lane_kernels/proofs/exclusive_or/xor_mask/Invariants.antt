use Rattle.std.proofs.Common.{◌≡◌, ℕ, ◌<◌, ◌≤◌, get_or}
use Rattle.std.specs.Prelude.{bit_xor}
use Rattle.lane_kernels.proofs.exclusive_or.xor_mask.Given as goal

abbrev pub invariant-loop-i : goal.invariant-loop-i
invariant-loop-i l = record {
  done : (j : ℕ) → j < l.i → get_or l.bytes j 0 ≡ bit_xor (get_or l.initial.bytes j 0) (get_or l.mask j 0);
  rest : (j : ℕ) → l.i ≤ j → get_or l.bytes j 0 ≡ get_or l.initial.bytes j 0;
}
