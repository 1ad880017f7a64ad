use Rattle.std.proofs.Common.{◌≡◌, drop}
use Rattle.std.specs.List.{list_all}
use Rattle.plan_table.specs.NumberTests.{is_within}
use Rattle.plan_table.specs.Seen.{numbers_in}
use Rattle.plan_table.proofs.number_lists.all_within.Given as goal

abbrev pub invariant-loop-i : goal.invariant-loop-i
invariant-loop-i l = list_all (is_within l.least l.most) (numbers_in l.numbers) ≡ list_all (is_within l.least l.most) (drop l.i (numbers_in l.numbers))
