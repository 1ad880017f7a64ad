use Rattle.line_commands.proofs.PullDamaged.{writes_as_if_repeated}
use Rattle.line_commands.proofs.laws.pull_of_one_damaged.Goals as goal

pub returns : goal.returns
returns c = writes_as_if_repeated
