use Rattle.std.proofs.Common.{rules, get_or}
use Rattle.port_base.specs.Views.{client_out_at}
use Rattle.live_node.specs.Kept.{KeepsSince}
use Rattle.live_node.specs.Places.{places, client_kept}
use Rattle.live_node.proofs.Keeping.{client_keeps}
use Rattle.live_node.proofs.Opening.{extended}
use Rattle.live_node.proofs.kept.clients_keep.Goals as goal

pub loop-n-preserved : goal.loop-n-preserved
loop-n-preserved c =
    let sent = c.args.sent.now in
    let rack = c.args.bays.now in
    let at = c.loop-n.n in
    extended (λ m. KeepsSince (get_or sent m 0) (client_out_at (places rack) m) (client_kept rack m)) at c.loop-n.invariant
    (client_keeps rack at (get_or sent at 0) c.client_out.result.now c.client_out.ensures (c.keeps_since.ensures (search rules)))
