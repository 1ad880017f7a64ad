use Rattle.gfp_frames.proofs.PlaceRuns.{frames_by_place}
use Rattle.gfp_frames.proofs.laws.frames_stand_by_place.Goals as goal

pub returns : goal.returns
returns c = frames_by_place
