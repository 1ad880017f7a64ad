use Rattle.odu_client.proofs.WholeFrames.{whole_frames_arrive}
use Rattle.odu_client.proofs.laws.packets_arrive.Goals as goal

pub returns : goal.returns
returns c = whole_frames_arrive
