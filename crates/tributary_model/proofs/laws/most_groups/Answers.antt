use Rattle.tributary_model.proofs.Groups.{completes_at_most}
use Rattle.tributary_model.proofs.laws.most_groups.Goals as goal

pub returns-clause-law : goal.returns-clause-law
returns-clause-law c = completes_at_most c.args.slots c.requires.some
