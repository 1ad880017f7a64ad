use Rattle.std.proofs.Common.{rules}
use Rattle.connection_laws.proofs.Accepted.{goes_as_asked, has_as_many_slots}
use Rattle.connection_laws.proofs.carriage.sound_connections.Goals as goal

pub returns-clause-goes : goal.returns-clause-goes
returns-clause-goes c = search (rules, goes_as_asked)

pub returns-clause-slots : goal.returns-clause-slots
returns-clause-slots c = search (rules, has_as_many_slots)
