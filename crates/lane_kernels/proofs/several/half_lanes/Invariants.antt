use Rattle.std.proofs.Common.{◌≡◌, ℕ, ◌-◌, ◌<◌, get_or, length}
use Rattle.lane_kernels.proofs.several.half_lanes.Given as goal

abbrev pub invariant-loop-p : goal.invariant-loop-p
invariant-loop-p l = record {
  each : (p : ℕ) → p < l.p → get_or l.lanes p 0 ≡ get_or l.slots p 0 - 1 - l.before;
  low : (i : ℕ) → get_or l.lanes i 0 < 16;
  long : length l.lanes ≡ 16;
}
