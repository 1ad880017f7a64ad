use Rattle.std.proofs.Common.{◌≡◌, ℕ, List, length, drop}
use Rattle.otn_base.specs.declared.kind.PortName.TheVariants as port
use Rattle.otn_base.specs.LineSlots.{slots_of}
use Rattle.node_links.specs.Links.{takes_part}
use Rattle.node_links.specs.Steps.LineFrames.{AllotsOwn, LinkByLink, FromBlank}
use Rattle.node_links.proofs.lines_out.slot_map.Given as goal

-- whatever the connections that are left make of the map
abbrev pub invariant-loop-link : goal.invariant-loop-link
invariant-loop-link l = record {
  size : length l.map ≡ slots_of l.kind;
  rest : (new : List ℕ) → LinkByLink (λ link before now. AllotsOwn l.kind (takes_part l.past (port.LineOut l.b) link) link before now) (drop l.link-index l.links) l.map new
      → FromBlank (λ link before now. AllotsOwn l.kind (takes_part l.past (port.LineOut l.b) link) link before now) l.links new;
}
