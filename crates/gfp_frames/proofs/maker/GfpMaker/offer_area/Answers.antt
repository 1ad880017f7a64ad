use Rattle.gfp_frames.specs.GfpText.{WithArea}
use Rattle.gfp_frames.proofs.Texts.{frame_made}
use Rattle.gfp_frames.proofs.maker.GfpMaker.offer_area.Goals as goal

pub returns-clause-made : goal.returns-clause-made
returns-clause-made c = λ frames emitted made. frame_made frames (WithArea c.args.area.now) emitted c.args.self.now c.put_area.new.self made c.requires.idle c.put_area.ensures
