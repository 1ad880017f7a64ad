use Rattle.std.proofs.Common.{◌≡◌, ℕ, ◌+◌, ◌-◌, ◌*◌, ◌<◌, ◌≤◌, get_or, length}
use Rattle.lane_kernels.proofs.several.take_cycles.Given as goal

abbrev pub invariant-loop-cycle : goal.invariant-loop-cycle
invariant-loop-cycle l = record {
  before : (n : ℕ) → n < length l.slots * l.from → get_or l.into n 0 ≡ get_or l.initial.into n 0;
  rest : (j p : ℕ) → l.from ≤ j → j < l.cycle → p < length l.slots → get_or l.into (length l.slots * j + p) 0 ≡ get_or l.row (l.line * j + (get_or l.slots p 0 - 1)) 0;
}
