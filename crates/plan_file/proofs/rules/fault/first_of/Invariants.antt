use Rattle.std.proofs.Common.{◌≡◌, drop}
use Rattle.plan_file.specs.PlanRules.{plan_places}
use Rattle.plan_file.specs.Places.{first_broken}
use Rattle.plan_file.specs.Steps.Seen.{outline_in}
use Rattle.plan_file.proofs.rules.fault.first_of.Given as goal

abbrev pub invariant-loop-rule : goal.invariant-loop-rule
invariant-loop-rule l =
    first_broken (plan_places (outline_in l.outline)) l.rules ≡ first_broken (plan_places (outline_in l.outline)) (drop l.rule-index l.rules)
