use Rattle.network_laws.proofs.EndToEnd.{networks_isolated, networks_deliver}
use Rattle.network_laws.proofs.Routes.{way_of, one_way_back}
use Rattle.network_laws.proofs.laws.networks_isolate_and_deliver.Goals as goal

pub returns-clause-ways : goal.returns-clause-ways
returns-clause-ways c = way_of

pub returns-clause-isolated : goal.returns-clause-isolated
returns-clause-isolated c = networks_isolated

pub returns-clause-back : goal.returns-clause-back
returns-clause-back c = one_way_back

pub returns-clause-delivered : goal.returns-clause-delivered
returns-clause-delivered c = networks_deliver
