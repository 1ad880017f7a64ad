use Rattle.std.proofs.Common.{◌≡◌, drop, take}
use Rattle.plan_file.specs.PlanRules.{clashes}
use Rattle.plan_file.specs.Places.{places_after, later_places}
use Rattle.plan_file.specs.Steps.Seen.{entries_in}
use Rattle.plan_file.proofs.rules.first.first_clash.Given as goal

abbrev pub invariant-loop-i : goal.invariant-loop-i
invariant-loop-i l =
    later_places (clashes l.rule) (entries_in l.entries) ≡ places_after (take l.i (entries_in l.entries)) (clashes l.rule) (drop l.i (entries_in l.entries))
