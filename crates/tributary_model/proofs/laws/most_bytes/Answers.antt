use Rattle.tributary_model.proofs.Groups.{emits_at_most}
use Rattle.tributary_model.proofs.laws.most_bytes.Goals as goal

pub returns-clause-law : goal.returns-clause-law
returns-clause-law c = emits_at_most c.args.slots c.requires.some
