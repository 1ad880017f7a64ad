use Rattle.std.proofs.Common.{◌≡◌, ◌+◌, drop}
use Rattle.plan_file.specs.Places.{places, places_from}
use Rattle.network_file.specs.Rules.{breaks_name}
use Rattle.network_file.proofs.rules.names.first_bad_name.Given as goal

abbrev pub invariant-loop-i : goal.invariant-loop-i
invariant-loop-i l = places breaks_name l.nodes ≡ places_from (l.i + 1) breaks_name (drop l.i l.nodes)
