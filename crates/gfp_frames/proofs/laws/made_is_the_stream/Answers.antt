use Rattle.gfp_frames.proofs.Streams.{given_is_stream}
use Rattle.gfp_frames.proofs.laws.made_is_the_stream.Goals as goal

pub returns : goal.returns
returns c = given_is_stream
