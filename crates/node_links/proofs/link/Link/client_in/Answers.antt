use Rattle.node_links.proofs.LinkLaws.{takes_from_client}
use Rattle.node_links.proofs.link.Link.client_in.Goals as goal

pub client_in-requires : goal.client_in-requires
client_in-requires c = record { client = takes_from_client c.args.self.now c.requires.client.0 c.requires.client.1 }
