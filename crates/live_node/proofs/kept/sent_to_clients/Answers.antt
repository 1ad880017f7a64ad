use Rattle.std.proofs.Common.{◌≡◌, get_or, set, ◌∙◌, arith}
use Rattle.std.proofs.lemmas.List.{get_or-set_same, get_or-set_other, length-set}
use Rattle.port_base.specs.Views.{client_out_at}
use Rattle.live_node.specs.Places.{places}
use Rattle.live_node.proofs.Keeping.{client_number}
use Rattle.live_node.proofs.Opening.{extended, apart_below}
use Rattle.live_node.proofs.kept.sent_to_clients.Goals as goal

pub loop-n-preserved : goal.loop-n-preserved
loop-n-preserved c =
    let i = c.loop-n.invariant in
    let rack = c.args.bays.now in
    let at = c.loop-n.n in
    let number = c.number_of.result in
    let sent = c.loop-n.sent in
    record {
      many = length-set sent at number ∙ i.many;
      each = extended (λ m. get_or (set sent at number) m 0 ≡ (client_out_at (places rack) m).number) at
          (λ m less. get_or-set_other sent at m number 0 (apart_below m at less) ∙ i.each m less)
          (get_or-set_same sent at number 0 (let many = i.many in omega arith)
          ∙ client_number rack at number c.client_out.result.now c.client_out.ensures c.number_of.ensures);
    }
