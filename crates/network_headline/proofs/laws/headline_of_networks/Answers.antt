use Rattle.network_headline.proofs.CalledNetworks.{calls_are_a_run}
use Rattle.network_headline.proofs.laws.headline_of_networks.Goals as goal

pub returns : goal.returns
returns c = calls_are_a_run
