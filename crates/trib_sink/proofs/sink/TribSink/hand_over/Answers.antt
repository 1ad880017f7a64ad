use Rattle.std.proofs.Common.{[], ◌∷◌, sym, subst}
use Rattle.trib_sink.specs.Sink.{Sink, StandsAfter, ended_view}
use Rattle.trib_sink.proofs.Stands.{stands_emptied}
use Rattle.trib_sink.proofs.sink.TribSink.hand_over.Goals as goal

pub returns-clause-stands : goal.returns-clause-stands
returns-clause-stands c = λ own past frames h.
    let i = c.self.inside in
    let s : Sink = record { slots = i.slots; port = i.port; following = i.follower; watches = i.watches; taken = i.taken; message = i.message; msi = i.msi.items } in
    rw c.hand_over.ensures.state
    (stands_emptied own (ended_view own c.args.whole frames ∷ past) [] s
    (subst (λ x. StandsAfter own (ended_view own c.args.whole frames ∷ past) [] x) (sym c.self.view_is) (c.pass_turn.ensures.stands own past frames h)))
