use Rattle.std.proofs.Common.{rules}
use Rattle.connection_laws.proofs.CarriedFrom.{carries_a_client, carries_a_signal}
use Rattle.connection_laws.proofs.GotStreams.{gets_the_stream, gets_the_signal}
use Rattle.connection_laws.proofs.carriage.carried_from.Goals as goal

pub returns-clause-client : goal.returns-clause-client
returns-clause-client c = search (rules, carries_a_client)

pub returns-clause-signal : goal.returns-clause-signal
returns-clause-signal c = search (rules, carries_a_signal)

pub returns-clause-frames : goal.returns-clause-frames
returns-clause-frames c = search (rules, gets_the_stream)

pub returns-clause-pattern : goal.returns-clause-pattern
returns-clause-pattern c = search (rules, gets_the_signal)
