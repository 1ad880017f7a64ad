use Rattle.node_links.specs.Moves.{Fences}
use Rattle.node_links.specs.LinkEnds.{whole_for}
use Rattle.node_links.proofs.LinkSteps.{Gone}
use Rattle.node_links.proofs.turn.fence_all.Given as goal

-- the connections so far have gone on
abbrev pub invariant-loop-link : goal.invariant-loop-link
invariant-loop-link l = Gone (λ link then. Fences l.past (whole_for link.entry.from l.wholes) link then) l.link-index l.fn.links.items l.link-items
