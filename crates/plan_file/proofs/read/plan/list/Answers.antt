use Rattle.std.proofs.Common.{◌≡◌}
use Rattle.plan_file.specs.Entry.{connection_of}
use Rattle.plan_file.specs.Steps.Seen.{entries_in, entry_in}
use Rattle.plan_file.proofs.Filled.{filled_more}
use Rattle.plan_file.proofs.read.plan.list.Goals as goal

pub connection-requires : goal.connection-requires
connection-requires c = c.requires.each c.loop-i.i (entry_in c.at.result) c.at.ensures

pub loop-i-preserved : goal.loop-i-preserved
loop-i-preserved c =
    let more = filled_more connection_of (entries_in c.args.entries.now) c.loop-i.i (entry_in c.at.result) c.loop-i.list.items c.at.ensures c.loop-i.invariant in
    let is : c.in_ok-connection.field-0 ≡ connection_of (entry_in c.at.result) = c.in_ok-connection.ensures in
    cc (c.in_ok-push.ensures.items)
