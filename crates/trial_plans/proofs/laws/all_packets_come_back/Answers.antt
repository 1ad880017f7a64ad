use Rattle.trial_plans.proofs.TrialCarried as trial
use Rattle.trial_plans.proofs.laws.all_packets_come_back.Goals as goal

pub returns : goal.returns
returns c = trial.all_packets_come_back
