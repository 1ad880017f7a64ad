use Rattle.std.proofs.Common.{◌≡◌, ◌≢◌, ℕ, ◌+◌, ◌-◌, ◌<◌, get_or}
use Rattle.lane_kernels.proofs.spread.put_cycle.Given as goal

abbrev pub invariant-loop-p : goal.invariant-loop-p
invariant-loop-p l = record {
  here : (p : ℕ) → p < l.p → get_or l.row (l.at + (get_or l.slots p 0 - 1)) 0 ≡ get_or l.bytes (l.from + p) 0;
  others : (n : ℕ) → ((p : ℕ) → p < l.p → n ≢ l.at + (get_or l.slots p 0 - 1)) → get_or l.row n 0 ≡ get_or l.initial.row n 0;
}
