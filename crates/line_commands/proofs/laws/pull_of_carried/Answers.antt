use Rattle.line_commands.proofs.PullCarried.{begins_with, whole_groups, after_damage}
use Rattle.line_commands.proofs.laws.pull_of_carried.Goals as goal

pub returns-clause-begins : goal.returns-clause-begins
returns-clause-begins c = begins_with

pub returns-clause-whole : goal.returns-clause-whole
returns-clause-whole c = whole_groups

pub returns-clause-healed : goal.returns-clause-healed
returns-clause-healed c = after_damage
