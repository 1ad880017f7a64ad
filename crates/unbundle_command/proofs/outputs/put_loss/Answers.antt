use Rattle.std.proofs.Common.{arith}
use Rattle.std.proofs.lemmas.Option.{slice_get_read}
use Rattle.unbundle_command.proofs.Holding.{loss_put}
use Rattle.unbundle_command.proofs.outputs.put_loss.Goals as goal

pub returns-clause-stands : goal.returns-clause-stands
returns-clause-stands c = λ first now arrived h.
    let items = c.args.channels.now.items in
    loss_put first now arrived c.args.cid items c.index_mut.result.now c.lose.new.self (slice_get_read items 16 c.args.cid c.index_mut.result.now (grind arith) c.requires.low c.index_mut.ensures.value)
    c.lose.ensures.text c.lose.ensures.packets c.lose.ensures.losses h
