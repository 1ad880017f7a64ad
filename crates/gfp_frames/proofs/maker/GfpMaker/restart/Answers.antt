use Rattle.std.proofs.Common.{ℕ, ap, ◌∙◌}
use Rattle.gfp_frames.specs.CoreHeader.{core_header}
use Rattle.gfp_frames.specs.Maker.{MakerState}
use Rattle.gfp_frames.proofs.Texts.{fresh_made}
use Rattle.gfp_frames.proofs.maker.GfpMaker.restart.Goals as goal

pub returns-clause-made : goal.returns-clause-made
returns-clause-made c =
    let state : ℕ → MakerState = λ r. record { hand = core_header 0; register = r } in
    fresh_made c.put_idle.new.self (c.put_idle.ensures ∙ ap state c.new-self-inside.ensures.register)
