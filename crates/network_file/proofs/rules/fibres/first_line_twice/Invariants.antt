use Rattle.std.proofs.Common.{◌≡◌, drop, take}
use Rattle.plan_file.specs.Places.{places_after, later_places}
use Rattle.network_file.specs.Rules.{lead_to_one_line}
use Rattle.network_file.proofs.rules.fibres.first_line_twice.Given as goal

abbrev pub invariant-loop-i : goal.invariant-loop-i
invariant-loop-i l = later_places lead_to_one_line l.fibres ≡ places_after (take l.i l.fibres) lead_to_one_line (drop l.i l.fibres)
