use Rattle.gfp_frames.proofs.Texts.{idle_made}
use Rattle.gfp_frames.proofs.maker.GfpMaker.offer_idle.Goals as goal

pub returns-clause-made : goal.returns-clause-made
returns-clause-made c = λ frames emitted made. idle_made frames emitted c.args.self.now c.put_idle.new.self made c.requires c.put_idle.ensures
