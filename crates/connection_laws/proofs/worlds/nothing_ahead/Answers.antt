use Rattle.std.proofs.Common.{rules}
use Rattle.connection_laws.proofs.UpToTurn.{shows_the_same_up_to, looks_not_ahead, writes_nothing_ahead}
use Rattle.connection_laws.proofs.worlds.nothing_ahead.Goals as goal

pub returns-clause-input : goal.returns-clause-input
returns-clause-input c = search (rules, shows_the_same_up_to)

pub returns-clause-leaves : goal.returns-clause-leaves
returns-clause-leaves c = search (rules, looks_not_ahead)

pub returns-clause-file : goal.returns-clause-file
returns-clause-file c = search (rules, writes_nothing_ahead)
