use Rattle.trial_plans.proofs.TrialDraw.{trial_packets_are}
use Rattle.trial_plans.proofs.laws.drawn_as_said.Goals as goal

pub returns : goal.returns
returns c = trial_packets_are
