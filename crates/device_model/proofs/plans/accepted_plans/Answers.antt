use Rattle.std.proofs.Common.{rules}
use Rattle.device_model.proofs.SoundPlans.{sound_plan}
use Rattle.device_model.proofs.plans.accepted_plans.Goals as goal

pub returns : goal.returns
returns c = search (rules, sound_plan)
