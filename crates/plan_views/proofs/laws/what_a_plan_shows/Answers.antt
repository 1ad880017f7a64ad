use Rattle.plan_views.proofs.PlanTelling.{tells_the_run}
use Rattle.plan_views.proofs.laws.what_a_plan_shows.Goals as goal

pub returns : goal.returns
returns c = tells_the_run
