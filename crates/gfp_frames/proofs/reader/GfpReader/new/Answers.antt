use Rattle.std.proofs.Common.{refl}
use Rattle.gfp_frames.proofs.Reading.{begins_at}
use Rattle.gfp_frames.proofs.reader.GfpReader.new.Goals as goal

pub returns : goal.returns
returns c = record { read = begins_at _ c.new.result refl c.new.ensures.register }
