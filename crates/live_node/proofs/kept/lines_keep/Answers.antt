use Rattle.std.proofs.Common.{rules, get_or}
use Rattle.port_base.specs.Views.{line_out_at}
use Rattle.live_node.specs.Kept.{KeepsSince}
use Rattle.live_node.specs.Places.{places, line_kept}
use Rattle.live_node.proofs.Keeping.{line_keeps}
use Rattle.live_node.proofs.Opening.{extended}
use Rattle.live_node.proofs.kept.lines_keep.Goals as goal

pub loop-b-preserved : goal.loop-b-preserved
loop-b-preserved c =
    let sent = c.args.sent.now in
    let rack = c.args.bays.now in
    let at = c.loop-b.b in
    extended (λ m. KeepsSince (get_or sent m 0) (line_out_at (places rack) m) (line_kept rack m)) at c.loop-b.invariant
    (line_keeps rack at (get_or sent at 0) c.line_out.result.now c.line_out.ensures (c.keeps_since.ensures (search rules)))
