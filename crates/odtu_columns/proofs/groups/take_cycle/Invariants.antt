use Rattle.std.proofs.Common.{◌≡◌, ℕ, ◌<◌, ◌+◌, ◌-◌, get_or}
use Rattle.odtu_columns.proofs.groups.take_cycle.Given as goal

abbrev pub invariant-loop-i : goal.invariant-loop-i
invariant-loop-i l = (j : ℕ) → j < l.i → get_or l.into j 0 ≡ get_or l.payload (l.before + get_or l.slots j 0 - 1) 0
