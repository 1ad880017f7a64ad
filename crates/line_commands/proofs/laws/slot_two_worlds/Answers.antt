use Rattle.line_commands.proofs.TwoWorlds.{same_report}
use Rattle.line_commands.proofs.laws.slot_two_worlds.Goals as goal

pub returns : goal.returns
returns c = same_report
