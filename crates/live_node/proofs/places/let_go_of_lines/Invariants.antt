use Rattle.std.proofs.Common.{◌≡◌}
use Rattle.live_node.specs.Places.{places}
use Rattle.live_node.proofs.places.let_go_of_lines.Given as goal

abbrev pub invariant-loop-b : goal.invariant-loop-b
invariant-loop-b l = places l.bays ≡ places l.initial.bays
