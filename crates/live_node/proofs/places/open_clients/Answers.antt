use Rattle.std.proofs.Common.{rules}
use Rattle.live_node.specs.Places.{places}
use Rattle.live_node.proofs.Opening.{next_client}
use Rattle.live_node.proofs.places.open_clients.Goals as goal

pub loop-n-preserved : goal.loop-n-preserved
loop-n-preserved c =
    next_client (places c.args.bays.now) c.loop-n.bays c.set_client_in.new.self c.set_client_out.new.self c.loop-n.n c.input.result c.output.result
    (search rules) c.loop-n.invariant c.input.ensures c.output.ensures c.set_client_in.ensures c.set_client_out.ensures
