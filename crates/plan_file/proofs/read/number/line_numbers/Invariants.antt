use Rattle.std.proofs.Common.{◌≡◌, map, take}
use Rattle.plan_file.specs.Entry.{natural}
use Rattle.plan_file.specs.Seen.{numbers_in}
use Rattle.plan_file.proofs.read.number.line_numbers.Given as goal

abbrev pub invariant-loop-i : goal.invariant-loop-i
invariant-loop-i l = l.list.items ≡ take l.i (map natural (numbers_in l.numbers))
