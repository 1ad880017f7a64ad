use Rattle.std.proofs.Common.{◌≡◌, map}
use Rattle.toml.specs.View.{view}
use Rattle.plan_file.proofs.Filled.{filled_more}
use Rattle.plan_file.proofs.Lists.{slice_get_known}
use Rattle.network_file.specs.Table.{cut_at}
use Rattle.network_file.proofs.outline.whole.cuts_of.Goals as goal

pub loop-i-preserved : goal.loop-i-preserved
loop-i-preserved c =
    let known = slice_get_known view c.args.values.now c.loop-i.i c.item.result.now c.item.ensures in
    let more = filled_more cut_at (map view c.args.values.now) c.loop-i.i (view c.item.result.now) c.loop-i.list.items known c.loop-i.invariant in
    let is : c.of_table.result ≡ cut_at (view c.item.result.now) = c.of_table.ensures in
    cc (c.in_ok-push.ensures.items)
