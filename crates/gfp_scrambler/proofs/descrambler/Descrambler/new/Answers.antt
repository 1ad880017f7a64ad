use Rattle.gfp_scrambler.proofs.Rules.{none_taken}
use Rattle.gfp_scrambler.proofs.descrambler.Descrambler.new.Goals as goal

pub returns-clause-nothing : goal.returns-clause-nothing
returns-clause-nothing c = none_taken
