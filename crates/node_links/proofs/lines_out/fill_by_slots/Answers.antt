use Rattle.std.proofs.Common.{subst, sym, ap, ◌∙◌, length}
use Rattle.otn_base.specs.declared.kind.PortName.TheVariants as port
use Rattle.node_links.specs.Links.{takes_part}
use Rattle.node_links.specs.Steps.LineFrames.{PutsOwn, LinkByLink}
use Rattle.node_links.proofs.lines_out.fill_by_slots.Goals as goal

pub returns-clause-puts : goal.returns-clause-puts
returns-clause-puts c = record {
  first = c.clear.new.self;
  blank = record { zero = c.clear.ensures.zero };
  steps = subst (LinkByLink (λ link before now. PutsOwn (takes_part c.args.past (port.LineOut c.args.b) link) link before now) c.args.links.now.items c.clear.new.self) (sym c.join_into-payload.ensures.joined) c.fill_links.ensures.puts;
}

pub returns-clause-size : goal.returns-clause-size
returns-clause-size c = ap length (sym c.as_bytes.ensures.bytes) ∙ c.as_bytes.ensures.size
