use Rattle.std.proofs.Common.{◌+◌, ◌*◌, ap, subst}
use Rattle.otn_base.specs.declared.limits.TheConstants.{NOMINAL}
use Rattle.maintenance_signals.specs.Emitted.{HasEmitted}
use Rattle.trib_sink.specs.Extraction.{Extraction}
use Rattle.trib_sink.proofs.payload.Payload.give_signal.Goals as goal

pub returns-clause-emitted : goal.returns-clause-emitted
returns-clause-emitted c = λ signal emitted h.
    subst (λ n. HasEmitted signal (emitted + n * NOMINAL) c.next_front.new.stream) (ap (λ (e : Extraction). e.slots) c.self.view_is) (c.next_front.ensures.emitted signal emitted h)
