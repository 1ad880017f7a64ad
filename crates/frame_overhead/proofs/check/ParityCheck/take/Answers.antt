use Rattle.std.proofs.Common.{ap, sym, ◌∙◌, ◌+◌}
use Rattle.frame_overhead.specs.TwoBefore.{wrong_one, parity_due}
use Rattle.otn_base.specs.Counts.{saturated}
use Rattle.frame_overhead.proofs.Sent.{checked_more}
use Rattle.frame_overhead.proofs.check.ParityCheck.take.Goals as goal

pub returns : goal.returns
returns c = λ cols row col frames frame has byte parity.
    let inside = c.self.inside in
    let kept = rw (ap (λ v. v.kept) (sym c.self.view_is)) at has.kept in
    checked_more cols row col c.args.carried c.saturating_add-self-inside.result frames frame c.args.self.now c.send.new.self has
    (c.send.ensures cols frames frame kept parity) byte
    (c.saturating_add-self-inside.ensures
    ∙ ap (λ w. saturated (inside.wrong + w)) (c.is_wrong-wrong.ensures ∙ ap (λ d. wrong_one d c.args.carried) (c.due.ensures cols frames kept))
    ∙ ap (λ v. saturated (v.wrong + wrong_one (parity_due cols frames) c.args.carried)) c.self.view_is)
