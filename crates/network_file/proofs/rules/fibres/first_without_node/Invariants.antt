use Rattle.std.proofs.Common.{◌≡◌, ◌+◌, drop}
use Rattle.plan_file.specs.Places.{places, places_from}
use Rattle.network_file.specs.Rules.{lacks_node}
use Rattle.network_file.proofs.rules.fibres.first_without_node.Given as goal

abbrev pub invariant-loop-i : goal.invariant-loop-i
invariant-loop-i l = places (lacks_node l.nodes) l.fibres ≡ places_from (l.i + 1) (lacks_node l.nodes) (drop l.i l.fibres)
