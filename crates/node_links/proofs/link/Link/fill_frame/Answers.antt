use Rattle.std.proofs.Common.{◌≡◌, ◌∙◌, ◌+◌, suc, refl, sym, subst}
use Rattle.otn_base.specs.declared.kind.PortName.TheVariants as port
use Rattle.tributary_model.specs.Places.{tributary_of}
use Rattle.tributary_model.specs.Puts.{WasPut}
use Rattle.device_model.specs.Through.{got_by}
use Rattle.cross_matrix.specs.Pipes.{PipeStands}
use Rattle.cross_matrix.proofs.NextFrames.{next_to_fill}
use Rattle.node_links.specs.Links.{takes_part}
use Rattle.node_links.proofs.LinkLaws.{both, still_its, same_entry}
use Rattle.node_links.proofs.link.Link.fill_frame.Goals as goal

pub invariant_of-self : goal.invariant_of-self
invariant_of-self g c = record { of_entry = still_its c.args.self.now c.fill_frame.new.self c.fill_frame.ensures.entry }

pub returns-in-Some-clause-gave : goal.returns-in-Some-clause-gave
returns-in-Some-clause-gave g c = λ n. record {
  same = record { entry = refl; pipe = λ x h. c.fill_frame.ensures.entry x h };
  other = λ e. both (takes_part c.args.past (port.LineOut c.args.b) c.args.self.now) (sym c.takes_part.ensures ∙ c.if-not-takes_part.false) e;
  taking = c.fill_frame.ensures.taking;
  gave = λ on x b number slots input j frames ended e few h.
      let next = next_to_fill x b number slots input j n frames ended c.args.self.now.pipe e few h in
      let is : n ≡ c.in-Some.n = (let here = c.in-Some.is in let said = c.next_filled.ensures in cc) in
      subst (λ k. PipeStands x input j frames ended (k + 1) c.fill_frame.new.self) (sym is) (c.fill_frame.ensures.stands x input j frames ended (subst (λ k. PipeStands x input j frames ended k c.args.self.now.pipe) is h));
}

pub returns-in-Some-clause-puts : goal.returns-in-Some-clause-puts
returns-in-Some-clause-puts g c = record {
  other = λ e. both (takes_part c.args.past (port.LineOut c.args.b) c.args.self.now) (sym c.takes_part.ensures ∙ c.if-not-takes_part.false) e;
  put = λ on x b number slots input j n frames ended e few h.
      let next = next_to_fill x b number slots input j n frames ended c.args.self.now.pipe e few h in
      let is : n ≡ c.in-Some.n = (let here = c.in-Some.is in let said = c.next_filled.ensures in cc) in
      subst (λ k. WasPut (tributary_of slots number) (got_by x input (suc j)) j k (g.F.FillFrame.bytes c.args.frame.now) (g.F.FillFrame.bytes c.fill_frame.new.frame)) (sym is)
      (c.fill_frame.ensures.put x b number slots input j frames ended e (subst (λ k. PipeStands x input j frames ended k c.args.self.now.pipe) is h));
}

pub returns-in_default-clause-gave : goal.returns-in_default-clause-gave
returns-in_default-clause-gave g c = λ n. record {
  same = same_entry c.args.self.now;
  other = λ e. refl;
  taking = refl;
  gave = λ on x b number slots input j frames ended e few h. absurd (c.in_default.not-Some n (c.next_filled.ensures ∙ next_to_fill x b number slots input j n frames ended c.args.self.now.pipe e few h));
}

pub returns-in_default-clause-puts : goal.returns-in_default-clause-puts
returns-in_default-clause-puts g c = record {
  other = λ e. refl;
  put = λ on x b number slots input j n frames ended e few h. absurd (c.in_default.not-Some n (c.next_filled.ensures ∙ next_to_fill x b number slots input j n frames ended c.args.self.now.pipe e few h));
}
