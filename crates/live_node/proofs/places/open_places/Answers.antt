use Rattle.live_node.specs.Places.{places}
use Rattle.live_node.proofs.Opening.{opened}
use Rattle.live_node.proofs.places.open_places.Goals as goal

pub returns : goal.returns
returns c = opened (places c.in_ok-bays.bays) (places c.open_lines.new.bays) (places c.open_clients.new.bays) c.open_lines.ensures c.open_clients.ensures
