use Rattle.std.proofs.Common.{subst}
use Rattle.port_base.specs.OutPlace.{out_view}
use Rattle.cross_matrix.specs.Receiving.{ReceiverStands}
use Rattle.cross_matrix.specs.Parts.{OnReceiver}
use Rattle.cross_matrix.proofs.giving.GivingPart.give_client.Goals as goal

pub returns-in-Client-clause-gave : goal.returns-in-Client-clause-gave
returns-in-Client-clause-gave g c = λ first arrived h. c.take.ensures first arrived (subst (λ part. OnReceiver part (ReceiverStands first (out_view g.K.Sink c.args.place.now) arrived)) c.in-Client.is h)
