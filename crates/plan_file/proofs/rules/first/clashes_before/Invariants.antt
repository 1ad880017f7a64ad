use Rattle.std.proofs.Common.{◌≡◌, drop, take}
use Rattle.std.specs.List.{list_any}
use Rattle.plan_file.specs.PlanRules.{clashes}
use Rattle.plan_file.specs.Steps.Seen.{entries_in, entry_in}
use Rattle.plan_file.proofs.rules.first.clashes_before.Given as goal

abbrev pub invariant-loop-i : goal.invariant-loop-i
invariant-loop-i l =
    list_any (λ earlier. clashes l.rule earlier (entry_in l.later)) (take l.count (entries_in l.entries))
    ≡ list_any (λ earlier. clashes l.rule earlier (entry_in l.later)) (drop l.i (take l.count (entries_in l.entries)))
