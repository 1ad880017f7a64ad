use Rattle.std.proofs.Common.{◌≡◌, rules, to_z, of_z, w64, arith}
use Rattle.plan_file.specs.Entry.{natural}
use Rattle.plan_file.specs.Rules.{is_within}
use Rattle.plan_file.specs.Seen.{numbers_in}
use Rattle.plan_file.proofs.Filled.{filled_more, filled_room}
use Rattle.plan_file.proofs.Fitting.{all_at}
use Rattle.plan_file.proofs.read.number.bytes.Goals as goal

pub small-requires : goal.small-requires
small-requires c =
    let same : to_z w64 (of_z w64 c.at.result) ≡ c.at.result = search (rules, c.at.type_inv) in
    rw same (all_at (is_within 0 255) (numbers_in c.args.numbers.now) c.loop-i.i c.at.result c.requires.small c.at.ensures)

pub push-requires : goal.push-requires
push-requires c = (omega arith, filled_room natural (numbers_in c.args.numbers.now) c.loop-i.i c.loop-i.list.items 32 c.requires.few (omega arith) c.loop-i.invariant)

pub loop-i-preserved : goal.loop-i-preserved
loop-i-preserved c =
    let same : to_z w64 (of_z w64 c.at.result) ≡ c.at.result = search (rules, c.at.type_inv) in
    let byte : c.small.result ≡ natural c.at.result = rw same at c.small.ensures in
    let more = filled_more natural (numbers_in c.args.numbers.now) c.loop-i.i c.at.result c.loop-i.list.items c.at.ensures c.loop-i.invariant in
    cc
