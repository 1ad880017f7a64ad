use Rattle.otn_c.specs.Places.{LinesUpTo}
use Rattle.otn_c.proofs.Filling.{view}
use Rattle.otn_c.proofs.places.fill_lines.Given as goal

abbrev pub invariant-loop-n : goal.invariant-loop-n
invariant-loop-n l = LinesUpTo l.present l.block l.ends l.n (view l.initial.bays) (view l.bays)
