use Rattle.gfp_frames.specs.GfpText.{Client}
use Rattle.gfp_frames.proofs.Texts.{frame_made}
use Rattle.gfp_frames.proofs.maker.GfpMaker.offer.Goals as goal

pub returns-clause-made : goal.returns-clause-made
returns-clause-made c = λ frames emitted made.
    frame_made frames (Client c.args.packet.now c.args.fcs) emitted c.args.self.now c.put_frame.new.self made c.requires.idle c.put_frame.ensures
