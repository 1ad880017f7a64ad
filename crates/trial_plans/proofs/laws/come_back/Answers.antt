use Rattle.trial_plans.proofs.CarriedBack.{brings_the_stream_back, brings_all_packets_back}
use Rattle.trial_plans.proofs.laws.come_back.Goals as goal

pub returns-clause-stream : goal.returns-clause-stream
returns-clause-stream c = brings_the_stream_back

pub returns-clause-packets : goal.returns-clause-packets
returns-clause-packets c = brings_all_packets_back
