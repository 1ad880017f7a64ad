use Rattle.network_passes.proofs.PassedOn.{leave_the_same, deliver, settle}
use Rattle.network_passes.proofs.laws.passes_settle.Goals as goal

pub returns-clause-same : goal.returns-clause-same
returns-clause-same c = leave_the_same

pub returns-clause-delivered : goal.returns-clause-delivered
returns-clause-delivered c = deliver

pub returns-clause-settled : goal.returns-clause-settled
returns-clause-settled c = settle
