use Rattle.gfp_linear.proofs.Turns.{take_turns, none_idle}
use Rattle.gfp_linear.proofs.laws.channels_take_turns.Goals as goal

pub returns-clause-turns : goal.returns-clause-turns
returns-clause-turns c = take_turns

pub returns-clause-busy : goal.returns-clause-busy
returns-clause-busy c = none_idle
