use Rattle.std.proofs.Common.{◌≡◌, ◌+◌, drop}
use Rattle.plan_file.specs.Places.{places, places_from}
use Rattle.network_file.specs.Joining.{has_two_forms}
use Rattle.network_file.proofs.join.first_of_two_forms.Given as goal

abbrev pub invariant-loop-i : goal.invariant-loop-i
invariant-loop-i l = places (has_two_forms l.plans) l.fibres ≡ places_from (l.i + 1) (has_two_forms l.plans) (drop l.i l.fibres)
