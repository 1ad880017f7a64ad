use Rattle.std.proofs.Common.{sym, ◌∙◌}
use Rattle.number_order.proofs.NumberOrder.{generator_first}
use Rattle.trial_plans.proofs.draw.generator_of.Goals as goal

pub returns : goal.returns
returns c = c.seed_from_u64.ensures ∙ sym (generator_first c.args.number)
