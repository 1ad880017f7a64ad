use Rattle.std.proofs.Common.{sym}
use Rattle.gfp_frames.proofs.Idles.{sixteen_idles}
use Rattle.gfp_frames.proofs.maker.sixteen_idles.Goals as goal

pub returns : goal.returns
returns c = sym sixteen_idles
