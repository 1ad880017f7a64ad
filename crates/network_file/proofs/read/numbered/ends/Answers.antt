use Rattle.std.proofs.Common.{◌≡◌}
use Rattle.plan_file.proofs.Filled.{filled_more}
use Rattle.network_file.specs.Outline.{ends_of}
use Rattle.network_file.proofs.read.numbered.ends.Goals as goal

pub ends_of-requires : goal.ends_of-requires
ends_of-requires c = c.requires.each c.loop-i.i c.item.result.now c.item.ensures

pub loop-i-preserved : goal.loop-i-preserved
loop-i-preserved c =
    let more = filled_more (ends_of c.args.nodes.now) c.args.fibres.now c.loop-i.i c.item.result.now c.loop-i.list.items c.item.ensures c.loop-i.invariant in
    let is : c.ends_of.result ≡ ends_of c.args.nodes.now c.item.result.now = c.ends_of.ensures in
    cc (c.in_ok-push.ensures.items)
