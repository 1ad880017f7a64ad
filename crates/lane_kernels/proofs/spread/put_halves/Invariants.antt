use Rattle.std.proofs.Common.{◌≡◌, ◌≢◌, ℕ, ◌+◌, ◌-◌, ◌*◌, ◌%◌, ◌<◌, get_or, length}
use Rattle.lane_kernels.proofs.spread.put_halves.Given as goal

abbrev pub invariant-loop-cycle : goal.invariant-loop-cycle
invariant-loop-cycle l = record {
  here : (j p : ℕ) → j < l.cycle → p < length l.slots → get_or l.row (32 * j + (get_or l.slots p 0 - 1)) 0 ≡ get_or l.bytes (length l.slots * j + p) 0;
  others : (x : ℕ) → ((p : ℕ) → p < length l.slots → x % 32 + 1 ≢ get_or l.slots p 0) → get_or l.row x 0 ≡ get_or l.initial.row x 0;
}
