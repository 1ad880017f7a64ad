use Rattle.network_run.specs.Sites.{rack_view}
use Rattle.network_carry.specs.Ends.{NearEnds}
use Rattle.network_carry.proofs.ends.put_near_ends.Given as goal

-- the near ends at the lines so far
abbrev pub invariant-loop-b : goal.invariant-loop-b
invariant-loop-b g l = NearEnds l.fibres l.node l.b (rack_view g.P.Source g.K.Sink l.fn.bays) (rack_view g.P.Source g.K.Sink l.bays)
