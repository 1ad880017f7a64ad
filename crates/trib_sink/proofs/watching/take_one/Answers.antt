use Rattle.trib_sink.proofs.Bytes.{one_taken}
use Rattle.trib_sink.proofs.watching.take_one.Goals as goal

pub returns : goal.returns
returns c = λ port taken h.
    one_taken port taken c.args.watches.now c.args.slot c.args.byte c.take.new.self c.requires.watches c.requires.low c.requires.high h
    (c.take.ensures port (taken c.args.slot) (h.each c.args.slot c.index-watches-slot.result c.requires.low c.requires.high))
