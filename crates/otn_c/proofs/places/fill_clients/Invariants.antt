use Rattle.otn_c.specs.Places.{ClientsUpTo}
use Rattle.otn_c.proofs.Filling.{view}
use Rattle.otn_c.proofs.places.fill_clients.Given as goal

abbrev pub invariant-loop-n : goal.invariant-loop-n
invariant-loop-n l = ClientsUpTo l.present l.block l.ends l.n (view l.initial.bays) (view l.bays)
