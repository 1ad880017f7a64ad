use Rattle.line_side.proofs.Exits.{took_is}
use Rattle.line_side.proofs.laws.takes_the_wanted.Goals as goal

pub returns : goal.returns
returns c = took_is
