use Rattle.std.proofs.Common.{◌∙◌, List, ℕ, length, ap, sym, subst}
use Rattle.odu_client.specs.ClientOverhead.{MakerState, HasMadeFrames, MakesFrame}
use Rattle.odu_client.proofs.frame_maker.FrameMaker.put_frame.Goals as goal

pub returns : goal.returns
returns c = λ count emitted made.
    let P : List ℕ → Type 0 = λ payload. MakesFrame c.args.trace.now count emitted payload c.write.new.frame c.write.new.self in
    let Q : MakerState → Type 0 = λ m. HasMadeFrames c.args.trace.now count emitted m.overhead in
    subst P c.put_payload.ensures (c.write.ensures.made count emitted (subst Q (sym c.self.view_is) made) (ap length c.put_payload.ensures ∙ c.requires))
