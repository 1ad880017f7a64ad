use Rattle.std.proofs.Common.{◌≡◌}
use Rattle.live_node.specs.Places.{places}
use Rattle.live_node.proofs.places.let_go_of_clients.Given as goal

abbrev pub invariant-loop-n : goal.invariant-loop-n
invariant-loop-n l = places l.bays ≡ places l.initial.bays
