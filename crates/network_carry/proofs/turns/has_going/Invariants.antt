use Rattle.network_run.proofs.Over.{OverBelow}
use Rattle.network_carry.proofs.turns.has_going.Given as goal

-- the nodes so far are past their last turns
abbrev pub invariant-loop-site : goal.invariant-loop-site
invariant-loop-site g l = OverBelow l.site-index l.sites
