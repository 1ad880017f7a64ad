use Rattle.std.proofs.Common.{rules}
use Rattle.connection_laws.proofs.OneDamaged.{leaves_as_if_repeated}
use Rattle.connection_laws.proofs.damage.one_damaged_message.Goals as goal

pub returns : goal.returns
returns c = search (rules, leaves_as_if_repeated)
