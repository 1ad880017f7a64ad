use Rattle.std.proofs.Common.{List, ℕ, subst}
use Rattle.otn_base.specs.declared.kind.PortName.TheVariants as port
use Rattle.node_links.specs.Links.{takes_part}
use Rattle.node_links.specs.Moves.{EachLink, TookFrame}
use Rattle.node_links.proofs.lines_in.hand_out.Goals as goal

pub returns-then-is_by_slots : goal.returns-then-is_by_slots
returns-then-is_by_slots c =
    subst (λ (frame : List ℕ). EachLink (λ link then. TookFrame (takes_part c.args.past (port.LineIn c.args.a) link) (record { frame = frame; expected = c.args.expected }) link then) c.args.links.now.items c.hand_each.new.links.items)
    c.new.ensures c.hand_each.ensures
