use Rattle.gfp_scrambler.proofs.Rules.{none_sent}
use Rattle.gfp_scrambler.proofs.scrambler.Scrambler.new.Goals as goal

pub returns-clause-nothing : goal.returns-clause-nothing
returns-clause-nothing c = none_sent
