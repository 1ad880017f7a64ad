use Rattle.std.proofs.Common.{◌≡◌, drop}
use Rattle.plan_table.specs.NumberTests.{have_common}
use Rattle.plan_table.specs.Seen.{numbers_in}
use Rattle.plan_table.proofs.number_lists.have_common.Given as goal

abbrev pub invariant-loop-i : goal.invariant-loop-i
invariant-loop-i l = have_common (numbers_in l.numbers) (numbers_in l.others) ≡ have_common (drop l.i (numbers_in l.numbers)) (numbers_in l.others)
