use Rattle.std.proofs.Common.{◌∙◌}
use Rattle.live_node.proofs.Handing.{client_out_still}
use Rattle.live_node.proofs.places.let_go_of_clients.Goals as goal

pub loop-n-preserved : goal.loop-n-preserved
loop-n-preserved c =
    client_out_still c.loop-n.bays c.loop-n.n c.client_out_mut.result.now c.let_go.new.place c.client_out_mut.ensures.value c.let_go.ensures
    ∙ c.loop-n.invariant
