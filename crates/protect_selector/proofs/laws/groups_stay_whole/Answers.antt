use Rattle.protect_selector.proofs.Turns.{aligned_law, groups_law}
use Rattle.protect_selector.proofs.laws.groups_stay_whole.Goals as goal

pub returns-clause-aligned : goal.returns-clause-aligned
returns-clause-aligned c = aligned_law

pub returns-clause-groups : goal.returns-clause-groups
returns-clause-groups c = groups_law
