use Rattle.trial_plans.specs.TrialDraw.{DrawsText}
use Rattle.trial_plans.proofs.draw.draw_text.Given as goal

abbrev pub invariant-loop : goal.invariant-loop
invariant-loop l = DrawsText l.counter l.fn.generator l.generator l.text.items
