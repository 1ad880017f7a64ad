use Rattle.node_links.proofs.LinkLaws.{still_its, gives_to_client}
use Rattle.node_links.proofs.link.Link.give_client.Goals as goal

pub invariant_of-self : goal.invariant_of-self
invariant_of-self g c = record { of_entry = still_its c.args.self.now c.give_client.new.self c.give_client.ensures.entry }

pub give_client-requires : goal.give_client-requires
give_client-requires g c = record { client = gives_to_client c.args.self.now c.requires.client.0 c.requires.client.1 }
