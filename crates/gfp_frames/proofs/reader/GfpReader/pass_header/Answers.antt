use Rattle.gfp_frames.proofs.Over.{over_part}
use Rattle.std.proofs.Common.{false}
use Rattle.gfp_frames.proofs.reader.GfpReader.pass_header.Goals as goal

pub returns-clause-goes : goal.returns-clause-goes
returns-clause-goes c =
    over_part c.args.self.now c.take_header-header.new.self c.hunt_on.new.self c.args.bytes.now c.take_header-header.result c.hunt_on.result false c.take_header-header.ensures.goes c.hunt_on.ensures.goes
