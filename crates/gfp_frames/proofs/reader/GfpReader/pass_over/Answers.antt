use Rattle.gfp_frames.proofs.Over.{over_part}
use Rattle.std.proofs.Common.{false}
use Rattle.gfp_frames.proofs.reader.GfpReader.pass_over.Goals as goal

pub returns-clause-goes : goal.returns-clause-goes
returns-clause-goes c =
    over_part c.args.self.now c.skip_idles-idle.new.self c.pass_header.new.self c.args.bytes.now c.skip_idles-idle.result c.pass_header.result false c.skip_idles-idle.ensures.goes c.pass_header.ensures.goes
