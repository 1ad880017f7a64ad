use Rattle.std.proofs.Common.{◌≡◌, ◌-◌, drop}
use Rattle.plan_table.specs.NumberTests.{rises}
use Rattle.plan_table.specs.Seen.{numbers_in}
use Rattle.plan_table.proofs.number_lists.rises.Given as goal

abbrev pub invariant-loop-i : goal.invariant-loop-i
invariant-loop-i l = rises (numbers_in l.numbers) ≡ rises (drop (l.i - 1) (numbers_in l.numbers))
