use Rattle.live_node.specs.Places.{places, LinesUpTo}
use Rattle.live_node.proofs.places.open_lines.Given as goal

abbrev pub invariant-loop-n : goal.invariant-loop-n
invariant-loop-n l = LinesUpTo l.n (places l.initial.bays) (places l.bays)
