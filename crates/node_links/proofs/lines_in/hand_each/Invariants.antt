use Rattle.otn_base.specs.declared.kind.PortName.TheVariants as port
use Rattle.node_links.specs.Links.{takes_part}
use Rattle.node_links.specs.Moves.{TookFrame}
use Rattle.node_links.proofs.LinkSteps.{Gone}
use Rattle.node_links.proofs.lines_in.hand_each.Given as goal

-- the connections so far have gone on
abbrev pub invariant-loop-link : goal.invariant-loop-link
invariant-loop-link g l = Gone (λ link then. TookFrame (takes_part l.past (port.LineIn l.a) link) (record { frame = g.F.TakeFrame.bytes l.frame; expected = l.expected }) link then) l.link-index l.fn.links.items l.link-items
