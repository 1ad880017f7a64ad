use Rattle.std.proofs.Common.{◌≡◌, ◌≢◌, ℕ, ◌+◌, ◌-◌, ◌%◌, ◌<◌, ◌⊎◌, get_or, length}
use Rattle.lane_kernels.proofs.spread.spread_lanes.Given as goal

abbrev pub invariant-loop-p : goal.invariant-loop-p
invariant-loop-p l = record {
  first : (p : ℕ) → p < l.p → get_or l.lanes (get_or l.slots p 0 - 1) 0 ≡ p;
  second : (p : ℕ) → p < l.p → get_or l.lanes (get_or l.slots p 0 - 1 + 8) 0 ≡ length l.slots + p;
  others : (i : ℕ) → i < 16 → ((p : ℕ) → p < l.p → i % 8 + 1 ≢ get_or l.slots p 0) → get_or l.lanes i 0 ≡ 128;
  low : (i : ℕ) → (get_or l.lanes i 0 < 16) ⊎ (get_or l.lanes i 0 ≡ 128);
  long : length l.lanes ≡ 16;
}
