use Rattle.std.proofs.Common.{◌∙◌, refl, sym}
use Rattle.otn_base.specs.declared.kind.PortName.TheVariants as port
use Rattle.node_links.specs.Links.{takes_part}
use Rattle.node_links.proofs.LinkLaws.{both, still_its}
use Rattle.node_links.proofs.link.Link.take_frame.Goals as goal

pub invariant_of-self : goal.invariant_of-self
invariant_of-self g c = record { of_entry = still_its c.args.self.now c.take_frame.new.self c.take_frame.ensures.entry }

pub returns-in-Some : goal.returns-in-Some
returns-in-Some g c = record {
  same = record { entry = refl; pipe = λ x h. c.take_frame.ensures.entry x h };
  other = λ e. both (takes_part c.args.past (port.LineIn c.args.a) c.args.self.now) (sym c.takes_part.ensures ∙ c.if-not-takes_part.false) e;
  giving = c.take_frame.ensures.giving;
  took = λ on x a number slots input j filled frames e few h. c.take_frame.ensures.stands x input j filled frames h;
}
