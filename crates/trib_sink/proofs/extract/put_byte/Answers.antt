use Rattle.trib_sink.proofs.OwnBytes.{one_behind}
use Rattle.trib_sink.proofs.extract.put_byte.Goals as goal

pub returns-clause-bytes : goal.returns-clause-bytes
returns-clause-bytes c = one_behind c.args.into.now c.args.at c.args.byte c.requires.room
