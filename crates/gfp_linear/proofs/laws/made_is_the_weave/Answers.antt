use Rattle.gfp_linear.proofs.Streams.{weave_starts, weave_goes_on, made_is}
use Rattle.gfp_linear.proofs.laws.made_is_the_weave.Goals as goal

pub returns-clause-starts : goal.returns-clause-starts
returns-clause-starts c = weave_starts

pub returns-clause-goes_on : goal.returns-clause-goes_on
returns-clause-goes_on c = weave_goes_on

pub returns-clause-made : goal.returns-clause-made
returns-clause-made c = made_is
