use Rattle.std.proofs.Common.{◌≡◌, ◌+◌, drop, map}
use Rattle.toml.specs.View.{view}
use Rattle.plan_file.specs.Places.{places, places_from}
use Rattle.network_file.specs.Refusal.{breaks_node}
use Rattle.network_file.proofs.read.table.first_node.Given as goal

abbrev pub invariant-loop-i : goal.invariant-loop-i
invariant-loop-i l =
    places (breaks_node l.rule) (map view l.nodes) ≡ places_from (l.i + 1) (breaks_node l.rule) (drop l.i (map view l.nodes))
