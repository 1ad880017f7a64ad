use Rattle.trial_plans.proofs.TrialPlans.{one_more}
use Rattle.trial_plans.proofs.plans.plan_of_run.Goals as goal

pub loop-c-preserved : goal.loop-c-preserved
loop-c-preserved c =
    one_more c.args.run c.loop-c.c c.loop-c.list.items c.push.new.self.items c.in_ok-connection.field-0 c.loop-c.invariant c.in_ok-connection.ensures c.in_ok-push.ensures.items
