use Rattle.std.proofs.Common.{rules}
use Rattle.connection_laws.proofs.Healed.{gets_what_healed, arrives_healed, carries_what_it_gets}
use Rattle.connection_laws.proofs.damage.healing.Goals as goal

pub returns-clause-turn : goal.returns-clause-turn
returns-clause-turn c = search (rules, gets_what_healed)

pub returns-clause-joined : goal.returns-clause-joined
returns-clause-joined c = search (rules, arrives_healed)

pub returns-clause-carried : goal.returns-clause-carried
returns-clause-carried c = search (rules, carries_what_it_gets)
