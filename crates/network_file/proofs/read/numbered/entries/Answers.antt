use Rattle.std.proofs.Common.{◌≡◌}
use Rattle.network_file.proofs.Filled.{copied_more}
use Rattle.network_file.proofs.read.numbered.entries.Goals as goal

pub loop-i-preserved : goal.loop-i-preserved
loop-i-preserved c =
    let more = copied_more c.args.nodes.now c.loop-i.i c.item.result.now c.loop-i.list.items c.item.ensures c.loop-i.invariant in
    let is : c.in_ok-entry.field-0 ≡ c.item.result.now = c.in_ok-entry.ensures in
    cc (c.in_ok-push.ensures.items)
