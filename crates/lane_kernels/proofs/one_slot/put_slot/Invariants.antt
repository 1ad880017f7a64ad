use Rattle.std.proofs.Common.{◌≡◌, ◌≢◌, ℕ, ◌+◌, ◌-◌, ◌*◌, ◌%◌, ◌<◌, ◌≤◌, length, get_or}
use Rattle.lane_kernels.proofs.one_slot.put_slot.Given as goal

abbrev pub invariant-loop-done : goal.invariant-loop-done
invariant-loop-done g l = record {
  within : l.done ≤ length l.bytes;
  here : (j : ℕ) → j < l.done → get_or l.row (g.row.SLOTS * j + l.first) 0 ≡ get_or l.bytes j 0;
  others : (x : ℕ) → x % g.row.SLOTS ≢ l.first → get_or l.row x 0 ≡ get_or l.initial.row x 0;
}

abbrev pub decreases-loop-done : goal.decreases-loop-done
decreases-loop-done g l = length l.bytes - l.done

abbrev pub invariant-loop-j : goal.invariant-loop-j
invariant-loop-j g l = record {
  here : (j : ℕ) → j < l.j → get_or l.row (g.row.SLOTS * j + l.first) 0 ≡ get_or l.bytes j 0;
  others : (x : ℕ) → x % g.row.SLOTS ≢ l.first → get_or l.row x 0 ≡ get_or l.initial.row x 0;
}
