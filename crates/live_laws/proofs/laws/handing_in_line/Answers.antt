use Rattle.live_laws.proofs.Grown.{lines_grow}
use Rattle.live_laws.proofs.laws.handing_in_line.Goals as goal

pub returns : goal.returns
returns c = lines_grow
