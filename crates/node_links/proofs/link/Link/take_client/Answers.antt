use Rattle.node_links.proofs.LinkLaws.{still_its, takes_from_client, has_started}
use Rattle.node_links.proofs.link.Link.take_client.Goals as goal

pub invariant_of-self : goal.invariant_of-self
invariant_of-self g c = record { of_entry = still_its c.args.self.now c.take_client.new.self c.take_client.ensures.entry }

pub take_client-requires : goal.take_client-requires
take_client-requires g c = record {
  client = takes_from_client c.args.self.now c.requires.client.0 c.requires.client.1;
  turn = has_started c.args.self.now c.args.past c.requires.on;
}
