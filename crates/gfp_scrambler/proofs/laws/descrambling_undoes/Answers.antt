use Rattle.gfp_scrambler.proofs.Steps.{undone}
use Rattle.gfp_scrambler.proofs.laws.descrambling_undoes.Goals as goal

pub returns : goal.returns
returns c = undone
