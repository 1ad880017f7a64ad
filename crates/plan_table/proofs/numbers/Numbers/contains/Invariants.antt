use Rattle.std.proofs.Common.{◌≡◌, drop}
use Rattle.std.specs.List.{list_any}
use Rattle.std.specs.Ordering.{int_eq}
use Rattle.plan_table.specs.Seen.{numbers_in}
use Rattle.plan_table.proofs.numbers.Numbers.contains.Given as goal

abbrev pub invariant-loop-i : goal.invariant-loop-i
invariant-loop-i l = list_any (int_eq l.number) (numbers_in l.self) ≡ list_any (int_eq l.number) (drop l.i (numbers_in l.self))
