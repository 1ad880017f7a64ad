use Rattle.std.proofs.Common.{◌<◌, ◌++◌, take, refl, sym, subst, arith}
use Rattle.view_events.specs.Stands.{HasTaken}
use Rattle.view_events.proofs.Cuts.{take_none}
use Rattle.view_events.proofs.Taking.{closed_taken, none_taken, open_taken}
use Rattle.view_events.proofs.event_sink.EventSinkSink.write.Goals as goal

pub returns-then-n-eq0-clause-events : goal.returns-then-n-eq0-clause-events
returns-then-n-eq0-clause-events g c first text h =
    subst (λ p. HasTaken g.K.Sink first (text ++ p) c.args.self.now) (sym (take_none c.args.bytes.now)) (none_taken g.K.Sink first text c.args.self.now h)

pub returns-then-last-ne-LF-clause-events : goal.returns-then-last-ne-LF-clause-events
returns-then-last-ne-LF-clause-events g c first text h =
    let n = c.first_line-n.result in
    let e = c.first_line-n.ensures in
    let none = c.if-n-eq0.false in
    let some : 0 < n = omega (arith, none) in
    open_taken g.K.Sink first text c.args.bytes.now n c.args.self.now _ some e.within e.before c.if-last-ne-LF.true c.in-Ok.ensures.ok refl refl h

pub returns-clause-events : goal.returns-clause-events
returns-clause-events g c first text h =
    let n = c.first_line-n.result in
    let e = c.first_line-n.ensures in
    let none = c.if-n-eq0.false in
    let some : 0 < n = omega (arith, none) in
    let t = c.in_ok-taken.ensures in
    subst (λ m. HasTaken g.K.Sink first (text ++ take m c.args.bytes.now) c.end_line.new.self) (sym t.bound)
    (closed_taken g.K.Sink first text c.args.bytes.now n c.args.self.now _ c.end_line.new.self some e.within e.before c.if-last-ne-LF.false c.in-Ok.ensures.ok refl refl t.ended h)
