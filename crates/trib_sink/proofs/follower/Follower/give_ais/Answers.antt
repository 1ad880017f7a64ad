use Rattle.std.proofs.Common.{◌+◌, ◌*◌, subst, sym, ap, ◌∙◌}
use Rattle.otn_base.specs.declared.limits.TheConstants.{NOMINAL}
use Rattle.maintenance_signals.specs.declared.signal.Signal.TheVariants.{Ais}
use Rattle.maintenance_signals.specs.Emitted.{HasEmitted}
use Rattle.trib_sink.specs.Extraction.{Extraction}
use Rattle.trib_sink.specs.Following.{Following}
use Rattle.trib_sink.proofs.follower.Follower.give_ais.Goals as goal

pub returns-clause-at : goal.returns-clause-at
returns-clause-at c = λ s h.
    let emitted : HasEmitted Ais s.place c.self.inside.signal = subst (λ (f : Following). HasEmitted Ais s.place f.stream) (sym c.self.view_is) h.stream in
    record {
      standing = ap (λ (f : Following). f.standing) c.self.view_is ∙ c.requires.standing;
      pending = ap (λ (e : Extraction). e.pending) c.give_signal.ensures.state;
      stream = subst (λ n. HasEmitted Ais (s.place + n * NOMINAL) c.give_signal.new.stream) (ap (λ (f : Following). f.extraction.slots) c.self.view_is) (c.give_signal.ensures.emitted Ais s.place emitted);
    }
