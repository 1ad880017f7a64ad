use Rattle.std.proofs.Common.{◌≡◌, drop, take}
use Rattle.plan_file.specs.Places.{places_after, later_places}
use Rattle.network_file.specs.Rules.{have_one_name}
use Rattle.network_file.proofs.rules.names.first_name_twice.Given as goal

abbrev pub invariant-loop-i : goal.invariant-loop-i
invariant-loop-i l = later_places have_one_name l.nodes ≡ places_after (take l.i l.nodes) have_one_name (drop l.i l.nodes)
