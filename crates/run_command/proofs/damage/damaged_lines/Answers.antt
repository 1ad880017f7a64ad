use Rattle.std.proofs.Common.{rules}
use Rattle.run_command.proofs.DamagedLines.{healed, as_repeated, handed_on}
use Rattle.run_command.proofs.damage.damaged_lines.Goals as goal

pub returns-clause-healed : goal.returns-clause-healed
returns-clause-healed c = search (rules, healed)

pub returns-clause-repeated : goal.returns-clause-repeated
returns-clause-repeated c = search (rules, as_repeated)

pub returns-clause-handed : goal.returns-clause-handed
returns-clause-handed c = search (rules, handed_on)
