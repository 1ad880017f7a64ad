use Rattle.std.proofs.Common.{rules}
use Rattle.connection_laws.proofs.OwnBytes.{sends_the_same, writes_the_same}
use Rattle.connection_laws.proofs.worlds.same_places.Goals as goal

pub returns-clause-frames : goal.returns-clause-frames
returns-clause-frames c = search (rules, sends_the_same)

pub returns-clause-file : goal.returns-clause-file
returns-clause-file c = search (rules, writes_the_same)
