use Rattle.std.proofs.Common.{◌<◌, ap, sym, ◌∙◌, arith}
use Rattle.number_order.specs.NumberOrder.{generator_after}
use Rattle.trial_command.specs.TrialRuns.{holding}
use Rattle.trial_plans.proofs.TrialDraw.{first_client, text_drawn}
use Rattle.trial_command.proofs.TrialPlaces.{file_sink, first_none, next_client}
use Rattle.trial_command.proofs.places.first_places.Goals as goal

pub loop-c-init : goal.loop-c-init
loop-c-init c = record {
  drawn = c.generator_of-generator.ensures ∙ ap (generator_after c.args.number) (sym (first_client c.args.number));
  stand = first_none file_sink c.args.number c.in_ok-bays.bays c.set_line_out.new.self c.in_ok-room_for.field-0 c.in_ok-bays.ensures c.in_ok-room_for.ensures c.set_line_out.ensures;
}

pub loop-c-preserved : goal.loop-c-preserved
loop-c-preserved c =
    let n = c.loop-c.c in
    let few : n < 8 = omega arith in
    let i = c.loop-c.invariant in
    let text = text_drawn c.args.number n c.loop-c.generator c.draw_text.new.generator c.in_ok-text.text.items i.drawn c.in_ok-text.ensures in
    record {
      drawn = text.1;
      stand = next_client file_sink c.args.number n c.loop-c.bays c.set_client_in.new.self c.holding.result few i.stand (c.holding.ensures ∙ ap holding text.0) c.set_client_in.ensures;
    }
