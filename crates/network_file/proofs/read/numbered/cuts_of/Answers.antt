use Rattle.std.proofs.Common.{◌≡◌}
use Rattle.plan_file.proofs.Filled.{filled_more}
use Rattle.network_file.specs.Outline.{cut_of}
use Rattle.network_file.proofs.read.numbered.cuts_of.Goals as goal

pub cut_of-requires : goal.cut_of-requires
cut_of-requires c = c.requires.each c.loop-i.i c.item.result.now c.item.ensures

pub loop-i-preserved : goal.loop-i-preserved
loop-i-preserved c =
    let more = filled_more cut_of c.args.cuts.now c.loop-i.i c.item.result.now c.loop-i.list.items c.item.ensures c.loop-i.invariant in
    let is : c.cut_of.result ≡ cut_of c.item.result.now = c.cut_of.ensures in
    cc (c.in_ok-push.ensures.items)
