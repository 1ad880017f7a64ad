use Rattle.network_run.specs.Sites.{rack_view}
use Rattle.network_carry.specs.Ends.{FarEnds}
use Rattle.network_carry.proofs.ends.put_far_ends.Given as goal

-- the far ends at the lines so far
abbrev pub invariant-loop-c : goal.invariant-loop-c
invariant-loop-c g l = FarEnds l.fibres l.node l.c (rack_view g.P.Source g.K.Sink l.fn.bays) (rack_view g.P.Source g.K.Sink l.bays)
