use Rattle.std.proofs.Common.{◌+◌, subst}
use Rattle.std.proofs.lemmas.List.{length-take-le}
use Rattle.maintenance_signals.specs.Emitted.{HasEmitted}
use Rattle.cross_matrix.proofs.taking.next_front.Goals as goal

pub returns-clause-emitted : goal.returns-clause-emitted
returns-clause-emitted c = λ signal emitted h.
    subst (λ n. HasEmitted signal (emitted + n) c.next.new.self) (length-take-le c.args.count c.args.into.now c.requires) (c.next.ensures.emitted signal emitted h)
