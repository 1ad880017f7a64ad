use Rattle.std.proofs.Common.{arith}
use Rattle.view_events.proofs.Reading.{cm_read, cnd_read, state_read, tributary_by, tributary_word}
use Rattle.view_events.proofs.view_lines.tributary_said.Goals as goal

pub returns : goal.returns
returns c x h is =
    let line = c.args.line.now in
    let s = c.state_of-state in
    tributary_by c.args.turn x s.result c.pair_number-cm.result c.pair_number-cnd.result
    (state_read s.result x.state _ (tributary_word x h line is 6 (omega arith)) s.ensures.up s.ensures.waiting s.ensures.down)
    (cm_read c.pair_number-cm.result x.pair _ h.pair (tributary_word x h line is 8 (omega arith)) c.pair_number-cm.ensures.mark c.pair_number-cm.ensures.number)
    (cnd_read c.pair_number-cnd.result x.pair _ h.pair (tributary_word x h line is 10 (omega arith)) c.pair_number-cnd.ensures.mark c.pair_number-cnd.ensures.number)
