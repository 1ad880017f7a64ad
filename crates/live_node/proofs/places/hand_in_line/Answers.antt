use Rattle.std.proofs.Common.{refl, ◌∙◌}
use Rattle.live_node.proofs.Handing.{line_grew, line_ended, line_in_still}
use Rattle.live_node.proofs.places.hand_in_line.Goals as goal

pub returns : goal.returns
returns c =
    let rack = c.args.bays.now in
    let old = c.line_in_mut.result.now in
    let new = c.hand_in.new.place in
    let lent = c.line_in_mut.ensures.value in
    record {
      grew = λ taken. line_grew rack c.args.a old new c.args.frames.now lent (c.hand_in.ensures.taken taken);
      going = λ taken. line_ended rack c.args.a old lent ∙ c.hand_in.ensures.going taken;
      still = λ not. line_in_still rack c.args.a old new lent (c.hand_in.ensures.still not);
      keeps = record { lines = refl; clients = refl };
    }
