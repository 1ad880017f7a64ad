use Rattle.gfp_frames.proofs.Grows.{areas_grow}
use Rattle.gfp_frames.proofs.laws.areas_stay.Goals as goal

pub returns : goal.returns
returns c = areas_grow
