use Rattle.line_commands.proofs.PullWorlds.{same_pull}
use Rattle.line_commands.proofs.laws.pull_two_worlds.Goals as goal

pub returns : goal.returns
returns c = same_pull
