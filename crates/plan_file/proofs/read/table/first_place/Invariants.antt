use Rattle.std.proofs.Common.{◌≡◌, ◌+◌, drop, map}
use Rattle.toml.specs.View.{view}
use Rattle.plan_file.specs.TableRules.{breaks_in_table}
use Rattle.plan_file.specs.Places.{places, places_from}
use Rattle.plan_file.proofs.read.table.first_place.Given as goal

abbrev pub invariant-loop-i : goal.invariant-loop-i
invariant-loop-i l =
    places (breaks_in_table l.rule) (map view l.connections) ≡ places_from (l.i + 1) (breaks_in_table l.rule) (drop l.i (map view l.connections))
