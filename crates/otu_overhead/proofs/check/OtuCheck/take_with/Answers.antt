use Rattle.std.proofs.Common.{◌+◌, ap, sym, ◌∙◌}
use Rattle.otn_base.specs.Counts.{saturated}
use Rattle.otu_overhead.specs.Section.{fas_wrong}
use Rattle.otu_overhead.proofs.More.{taken_more}
use Rattle.otu_overhead.proofs.check.OtuCheck.take_with.Goals as goal

pub returns : goal.returns
returns c = λ frames has.
    let inside = c.self.inside in
    let frame = c.args.frame.now in
    let sm = rw (ap (λ v. v.sm) (sym c.self.view_is)) at has.sm in
    taken_more frames frame c.args.self.now c.saturating_add-self-inside.result c.take.new.self has
    (c.saturating_add-self-inside.ensures ∙ ap (λ n. saturated (inside.fas + n)) c.fas_wrong.ensures ∙ ap (λ v. saturated (v.fas + fas_wrong frame)) c.self.view_is)
    (c.take.ensures 4080 1 9 frames frame sm c.get.ensures c.requires)
