use Rattle.std.proofs.Common.{◌≡◌, ◌≢◌, ℕ, ◌+◌, ◌-◌, ◌<◌, ◌⊎◌, get_or, length}
use Rattle.lane_kernels.proofs.spread.half_spread.Given as goal

abbrev pub invariant-loop-p : goal.invariant-loop-p
invariant-loop-p l = record {
  each : (p : ℕ) → p < l.p → get_or l.lanes (get_or l.slots p 0 - 1 - l.before) 0 ≡ p;
  others : (i : ℕ) → i < 16 → ((p : ℕ) → p < l.p → l.before + i + 1 ≢ get_or l.slots p 0) → get_or l.lanes i 0 ≡ 128;
  low : (i : ℕ) → (get_or l.lanes i 0 < 16) ⊎ (get_or l.lanes i 0 ≡ 128);
  long : length l.lanes ≡ 16;
}
