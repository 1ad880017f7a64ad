use Rattle.tributary_model.proofs.Passing.{joins, joins_to_whole_groups, as_many, all_by_fronts, passes_on, later_pairs}
use Rattle.tributary_model.proofs.carriage.passing_on.Goals as goal

pub returns-clause-joined : goal.returns-clause-joined
returns-clause-joined c = joins

pub returns-clause-ended : goal.returns-clause-ended
returns-clause-ended c = joins_to_whole_groups

pub returns-clause-count : goal.returns-clause-count
returns-clause-count c = as_many

pub returns-clause-fronts : goal.returns-clause-fronts
returns-clause-fronts c = all_by_fronts

pub returns-clause-carried : goal.returns-clause-carried
returns-clause-carried c = passes_on

pub returns-clause-pairs : goal.returns-clause-pairs
returns-clause-pairs c = later_pairs
