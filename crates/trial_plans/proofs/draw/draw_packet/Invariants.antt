use Rattle.trial_plans.proofs.TrialDraw.{DrawsBytes}
use Rattle.trial_plans.proofs.draw.draw_packet.Given as goal

abbrev pub invariant-loop : goal.invariant-loop
invariant-loop l = DrawsBytes l.counter l.fn.generator l.generator l.packet.items
