use Rattle.std.proofs.Common.{◌≡◌, ◌+◌, ◌*◌, ◌++◌, [], length, ap, ◌∙◌, arith}
use Rattle.trib_sink.specs.Rows.{row_cycles}
use Rattle.trib_sink.specs.Steps.Rows.{own_data}
use Rattle.trib_sink.proofs.OwnBytes.{own_frame}
use Rattle.trib_sink.proofs.payload.Payload.take_frame.Goals as goal

pub returns-in-Some : goal.returns-in-Some
returns-in-Some g c =
    let old = c.args.self.now in
    let own = c.in-Some.own.now in
    let n = row_cycles c.args.slots.now.kind in
    let size : length own ≡ 4 * n = c.in-Some.ensures.size in
    c.take_own.ensures
    ∙ ap (λ k. record old { asked = k; fresh = old.fresh ++ own_data old.cm old.asked own; emitted = [] }) (let e : old.asked + length own ≡ old.asked + n + n + n + n = omega arith in e)
    ∙ ap (λ ys. record old { asked = old.asked + n + n + n + n; fresh = ys; emitted = [] }) (own_frame old.cm old.asked c.args.slots.now (g.F.TakeFrame.bytes c.args.frame.now) old.fresh own size c.in-Some.ensures.groups)

pub returns : goal.returns
returns g c = rw (c.take_rows-2.ensures, c.take_rows.ensures)
