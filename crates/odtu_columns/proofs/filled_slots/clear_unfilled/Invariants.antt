use Rattle.std.proofs.Common.{◌≡◌, ℕ, ◌*◌, ◌/◌, ◌<◌, ◌≤◌, length, cond, false, get_or}
use Rattle.odtu_columns.proofs.filled_slots.clear_unfilled.Given as goal

-- the slots so far were cleared, where they are not filled, and the others are as they were
abbrev pub invariant-loop-k : goal.invariant-loop-k
invariant-loop-k l = record {
  size : length l.bytes ≡ 15232;
  done : (n : ℕ) → n < 1904 * l.k → get_or l.bytes n 0 ≡ cond (get_or l.filled (n / 1904) false) (get_or l.fn.bytes n 0) 0;
  rest : (n : ℕ) → 1904 * l.k ≤ n → get_or l.bytes n 0 ≡ get_or l.fn.bytes n 0;
}
