use Rattle.std.proofs.Common.{◌≡◌, ℕ, ◌+◌, ◌-◌, ◌<◌, get_or}
use Rattle.lane_kernels.proofs.several.take_cycle.Given as goal

abbrev pub invariant-loop-p : goal.invariant-loop-p
invariant-loop-p l = record {
  below : (n : ℕ) → n < l.to → get_or l.into n 0 ≡ get_or l.initial.into n 0;
  here : (p : ℕ) → p < l.p → get_or l.into (l.to + p) 0 ≡ get_or l.row (l.at + (get_or l.slots p 0 - 1)) 0;
}
