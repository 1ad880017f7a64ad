use Rattle.std.proofs.Common.{rules}
use Rattle.connection_laws.proofs.TwoWorlds.{same_where_shared}
use Rattle.connection_laws.proofs.worlds.two_worlds.Goals as goal

pub returns : goal.returns
returns c = search (rules, same_where_shared)
