use Rattle.std.proofs.Common.{ℕ, List, drop}
use Rattle.otn_base.specs.declared.kind.PortName.TheVariants as port
use Rattle.node_links.specs.Links.{takes_part}
use Rattle.node_links.specs.Steps.LineFrames.{PutsOwn, LinkByLink}
use Rattle.node_links.specs.Moves.{GaveFrame}
use Rattle.node_links.proofs.LinkSteps.{Gone}
use Rattle.node_links.proofs.lines_out.fill_links.Given as goal

-- the connections so far have put their own, whatever those that are left make of the frame
abbrev pub invariant-loop-link : goal.invariant-loop-link
invariant-loop-link g l = record {
  gone : (n : ℕ) → Gone (λ link then. GaveFrame (takes_part l.past (port.LineOut l.b) link) n link then) l.link-index l.fn.links.items l.link-items;
  rest : (new : List ℕ) → LinkByLink (λ link before now. PutsOwn (takes_part l.past (port.LineOut l.b) link) link before now) (drop l.link-index l.fn.links.items) (g.F.FillFrame.bytes l.frame) new
      → LinkByLink (λ link before now. PutsOwn (takes_part l.past (port.LineOut l.b) link) link before now) l.fn.links.items (g.F.FillFrame.bytes l.fn.frame) new;
}
