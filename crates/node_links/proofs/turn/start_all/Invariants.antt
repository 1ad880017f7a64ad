use Rattle.node_links.specs.LinkEnds.{Starts}
use Rattle.node_links.proofs.LinkSteps.{Gone}
use Rattle.node_links.proofs.turn.start_all.Given as goal

-- the connections so far have gone on
abbrev pub invariant-loop-link : goal.invariant-loop-link
invariant-loop-link l = Gone (λ link then. Starts l.past link then) l.link-index l.fn.links.items l.link-items
