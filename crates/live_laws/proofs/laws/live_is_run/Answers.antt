use Rattle.live_laws.proofs.LiveRuns.{lives_are_runs}
use Rattle.live_laws.proofs.laws.live_is_run.Goals as goal

pub returns : goal.returns
returns c = lives_are_runs
