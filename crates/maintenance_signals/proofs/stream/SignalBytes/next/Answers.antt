use Rattle.std.proofs.Common.{length, ap, ◌∙◌, arith}
use Rattle.maintenance_signals.proofs.Bytes.{piece_is}
use Rattle.maintenance_signals.proofs.stream.SignalBytes.next.Goals as goal

pub returns-clause-bytes : goal.returns-clause-bytes
returns-clause-bytes c = λ signal emitted stands.
    let inside = c.self.inside in
    piece_is inside.signal signal inside.place emitted (length c.args.into.now) c.fill_from-self-inside.new.into
    (ap (λ s. s.signal) c.self.view_is ∙ stands.signal_is)
    (ap (λ s. s.place) c.self.view_is ∙ stands.place_is)
    (omega arith)
    c.fill_from-self-inside.ensures.bytes
