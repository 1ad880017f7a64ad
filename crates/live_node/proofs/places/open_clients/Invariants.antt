use Rattle.live_node.specs.Places.{places, ClientsUpTo}
use Rattle.live_node.proofs.places.open_clients.Given as goal

abbrev pub invariant-loop-n : goal.invariant-loop-n
invariant-loop-n l = ClientsUpTo l.n (places l.initial.bays) (places l.bays)
