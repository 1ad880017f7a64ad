use Rattle.std.proofs.Common.{sym}
use Rattle.otn_base.specs.LineSlots.{slots_of}
use Rattle.tributary_model.proofs.Greatest.{greatest_is_last}
use Rattle.trib_sink.proofs.arrivals.greatest_slot.Goals as goal

pub returns : goal.returns
returns c = sym (greatest_is_last (slots_of c.args.slots.now.kind) c.args.slots.now.list c.last.result c.last.ensures.list c.last.ensures.last)
