use Rattle.std.proofs.Common.{[], ◌∷◌, ◌++◌, ap, ◌∙◌}
use Rattle.trial_plans.proofs.TrialDraw.{no_packet, next_packet}
use Rattle.trial_plans.proofs.draw.draw_text.Goals as goal

pub loop-init : goal.loop-init
loop-init c = no_packet c.args.generator.now c.new-text.result.items c.new-text.ensures.items

pub loop-preserved : goal.loop-preserved
loop-preserved c =
    let text = c.loop.text.items in
    next_packet c.loop.counter c.args.generator.now c.loop.generator c.draw_packet.new.generator text c.in_ok-packet.packet.items c.push.new.self.items
    c.loop.invariant c.in_ok-packet.ensures
    (c.in_ok-push.ensures.items
    ∙ ap (λ t. t ++ 10 ∷ []) (c.in_ok-extend_from_slice.ensures.items ∙ ap (λ d. text ++ d) (c.as_bytes.ensures.value ∙ c.in_ok-digits.ensures)))
