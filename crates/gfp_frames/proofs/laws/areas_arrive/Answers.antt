use Rattle.gfp_frames.proofs.Arrives.{areas_found}
use Rattle.gfp_frames.proofs.laws.areas_arrive.Goals as goal

pub returns : goal.returns
returns c = areas_found
