use Rattle.gfp_frames.proofs.Grows.{delivered_grows}
use Rattle.gfp_frames.proofs.laws.delivered_stays.Goals as goal

pub returns : goal.returns
returns c = delivered_grows
