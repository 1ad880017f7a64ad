use Rattle.std.proofs.Common.{◌≡◌, ◌+◌, drop}
use Rattle.plan_file.specs.PlanRules.{breaks_alone}
use Rattle.plan_file.specs.Places.{places_from, places}
use Rattle.plan_file.specs.Steps.Seen.{entries_in, top_in}
use Rattle.plan_file.proofs.rules.first.first_place.Given as goal

abbrev pub invariant-loop-i : goal.invariant-loop-i
invariant-loop-i l =
    places (breaks_alone l.rule (top_in l.top)) (entries_in l.entries) ≡ places_from (l.i + 1) (breaks_alone l.rule (top_in l.top)) (drop l.i (entries_in l.entries))
