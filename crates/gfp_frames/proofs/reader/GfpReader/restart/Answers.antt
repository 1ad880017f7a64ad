use Rattle.gfp_frames.proofs.Reading.{begins_at}
use Rattle.gfp_frames.proofs.reader.GfpReader.restart.Goals as goal

pub returns : goal.returns
returns c = record { read = begins_at c.await_next.new.self c.new-self-inside.result c.await_next.ensures c.new-self-inside.ensures.register }
