use Rattle.network_laws.proofs.Delivery.{delivered}
use Rattle.network_laws.proofs.laws.ways_deliver.Goals as goal

pub returns : goal.returns
returns c = delivered
