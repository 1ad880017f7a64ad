use Rattle.line_side.proofs.Exits.{given_among}
use Rattle.line_side.proofs.laws.given_is_among.Goals as goal

pub returns : goal.returns
returns c = given_among
