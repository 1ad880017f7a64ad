use Rattle.std.proofs.Common.{◌≡◌, ◌+◌}
use Rattle.base_tests.proofs.gmp_rule_tests.groups_of_known_numbers.Given as goal

abbrev pub invariant-loop-j : goal.invariant-loop-j
invariant-loop-j g l = l.runner.asked + 1 ≡ l.j-counter
