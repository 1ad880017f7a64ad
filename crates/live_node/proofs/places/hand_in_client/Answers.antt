use Rattle.std.proofs.Common.{refl, ◌∙◌}
use Rattle.live_node.proofs.Handing.{client_grew, client_ended, client_in_still}
use Rattle.live_node.proofs.places.hand_in_client.Goals as goal

pub returns : goal.returns
returns c =
    let rack = c.args.bays.now in
    let old = c.client_in_mut.result.now in
    let new = c.hand_in.new.place in
    let lent = c.client_in_mut.ensures.value in
    record {
      grew = λ taken. client_grew rack c.args.n old new c.args.text.now lent (c.hand_in.ensures.taken taken);
      going = λ taken. client_ended rack c.args.n old lent ∙ c.hand_in.ensures.going taken;
      still = λ not. client_in_still rack c.args.n old new lent (c.hand_in.ensures.still not);
      keeps = record { lines = refl; clients = refl };
    }
