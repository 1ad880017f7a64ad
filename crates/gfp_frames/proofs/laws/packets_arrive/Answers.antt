use Rattle.gfp_frames.proofs.Arrives.{frames_arrive, stream_arrives}
use Rattle.gfp_frames.proofs.laws.packets_arrive.Goals as goal

pub returns-clause-frames : goal.returns-clause-frames
returns-clause-frames c = frames_arrive

pub returns-clause-stream : goal.returns-clause-stream
returns-clause-stream c = stream_arrives
