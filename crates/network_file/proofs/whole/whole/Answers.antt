use Rattle.std.proofs.Common.{arith}
use Rattle.network_file.proofs.Uncut.{whole_done, whole_go}
use Rattle.network_file.proofs.whole.whole.Goals as goal

pub loop-i-preserved : goal.loop-i-preserved
loop-i-preserved c =
    whole_go c.args.cuts.now c.args.fibres.now c.loop-i.list.items c.add.new.list.items c.loop-i.i c.item.result.now c.item.ensures c.in_ok-add.ensures
    c.loop-i.invariant

pub returns : goal.returns
returns c = whole_done c.args.cuts.now c.args.fibres.now c.loop-i.list.items c.loop-i.i (omega arith) c.loop-i.invariant
