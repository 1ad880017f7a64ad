use Rattle.network_run.proofs.Lent.{still, took}
use Rattle.network_run.proofs.fibres.hand_in.Goals as goal

pub returns-clause-taken : goal.returns-clause-taken
returns-clause-taken g c = λ e.
    took g.P.Source g.K.Sink c.args.site.now c.args.into c.line_in_mut.result.now c.hand_in_place.new.place c.args.frames.now c.line_in_mut.ensures.value
    (c.hand_in_place.ensures.taken e) (c.hand_in_place.ensures.going e)

pub returns-clause-not : goal.returns-clause-not
returns-clause-not g c = λ e.
    still g.P.Source g.K.Sink c.args.site.now c.args.into c.line_in_mut.result.now c.hand_in_place.new.place c.line_in_mut.ensures.value
    (c.hand_in_place.ensures.not e)
