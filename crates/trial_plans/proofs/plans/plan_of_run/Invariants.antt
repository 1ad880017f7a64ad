use Rattle.std.specs.Prelude.{◌≡◌, map}
use Rattle.std.specs.List.{range_with_len}
use Rattle.trial_plans.specs.TrialPlans.{trial_connection}
use Rattle.trial_plans.proofs.plans.plan_of_run.Given as goal

abbrev pub invariant-loop-c : goal.invariant-loop-c
invariant-loop-c l = l.list.items ≡ map (trial_connection l.run) (range_with_len 0 l.c)
