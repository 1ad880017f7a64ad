use Rattle.std.proofs.Common.{◌≡◌, ◌+◌, drop}
use Rattle.plan_file.specs.Places.{places, places_from}
use Rattle.network_file.specs.Joining.{is_refused}
use Rattle.network_file.proofs.join.first_refused.Given as goal

abbrev pub invariant-loop-i : goal.invariant-loop-i
invariant-loop-i l = places is_refused l.plans ≡ places_from (l.i + 1) is_refused (drop l.i l.plans)
