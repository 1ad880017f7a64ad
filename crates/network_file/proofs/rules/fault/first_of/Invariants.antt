use Rattle.std.proofs.Common.{◌≡◌, drop}
use Rattle.network_file.specs.Places.{first_broken}
use Rattle.network_file.specs.Refusal.{value_place}
use Rattle.network_file.proofs.rules.fault.first_of.Given as goal

abbrev pub invariant-loop-rule : goal.invariant-loop-rule
invariant-loop-rule l =
    first_broken (value_place l.outline) l.rules ≡ first_broken (value_place l.outline) (drop l.rule-index l.rules)
