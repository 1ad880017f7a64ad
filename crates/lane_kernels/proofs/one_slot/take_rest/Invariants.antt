use Rattle.std.proofs.Common.{◌≡◌, ℕ, ◌+◌, ◌*◌, ◌<◌, ◌≤◌, get_or}
use Rattle.lane_kernels.proofs.one_slot.take_rest.Given as goal

abbrev pub invariant-loop-j : goal.invariant-loop-j
invariant-loop-j l = record {
  before : (j : ℕ) → j < l.from → get_or l.into j 0 ≡ get_or l.initial.into j 0;
  rest : (j : ℕ) → l.from ≤ j → j < l.j → get_or l.into j 0 ≡ get_or l.row (l.slots * j + l.first) 0;
}
