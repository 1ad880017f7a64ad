use Rattle.std.proofs.Common.{◌≡◌, get_or, set, ◌∙◌, arith}
use Rattle.std.proofs.lemmas.List.{get_or-set_same, get_or-set_other, length-set}
use Rattle.port_base.specs.Views.{line_out_at}
use Rattle.live_node.specs.Places.{places}
use Rattle.live_node.proofs.Keeping.{line_number}
use Rattle.live_node.proofs.Opening.{extended, apart_below}
use Rattle.live_node.proofs.kept.sent_to_lines.Goals as goal

pub loop-b-preserved : goal.loop-b-preserved
loop-b-preserved c =
    let i = c.loop-b.invariant in
    let rack = c.args.bays.now in
    let at = c.loop-b.b in
    let number = c.number_of.result in
    let sent = c.loop-b.sent in
    record {
      many = length-set sent at number ∙ i.many;
      each = extended (λ m. get_or (set sent at number) m 0 ≡ (line_out_at (places rack) m).number) at
          (λ m less. get_or-set_other sent at m number 0 (apart_below m at less) ∙ i.each m less)
          (get_or-set_same sent at number 0 (let many = i.many in omega arith)
          ∙ line_number rack at number c.line_out.result.now c.line_out.ensures c.number_of.ensures);
    }
