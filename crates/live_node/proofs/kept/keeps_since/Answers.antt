use Rattle.live_node.proofs.Keeping.{live_keeps}
use Rattle.live_node.proofs.kept.keeps_since.Goals as goal

pub returns-in-Live : goal.returns-in-Live
returns-in-Live c = λ ok.
    live_keeps c.args.sent c.in-Live.number c.args.place.now c.in-Live.sink c.kept_bytes.result.now c.in-Live.is c.kept_bytes.ensures (c.is_sum.ensures ok)
