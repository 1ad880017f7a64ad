use Rattle.std.proofs.Common.{◌≡◌, rules, to_z, of_z, w64, arith}
use Rattle.plan_file.specs.Entry.{natural}
use Rattle.plan_file.specs.Rules.{is_within}
use Rattle.plan_file.specs.Seen.{numbers_in}
use Rattle.plan_file.proofs.Filled.{filled_more}
use Rattle.plan_file.proofs.Fitting.{all_at, is_within-wider}
use Rattle.plan_file.proofs.read.number.line_numbers.Goals as goal

pub small-requires : goal.small-requires
small-requires c =
    let same : to_z w64 (of_z w64 c.at.result) ≡ c.at.result = search (rules, c.at.type_inv) in
    let here = all_at (is_within 0 3) (numbers_in c.args.numbers.now) c.loop-i.i c.at.result c.requires c.at.ensures in
    rw same (is_within-wider 0 3 0 255 c.at.result here (omega arith) (omega arith))

pub loop-i-preserved : goal.loop-i-preserved
loop-i-preserved c =
    let same : to_z w64 (of_z w64 c.at.result) ≡ c.at.result = search (rules, c.at.type_inv) in
    let byte : c.small.result ≡ natural c.at.result = rw same at c.small.ensures in
    let more = filled_more natural (numbers_in c.args.numbers.now) c.loop-i.i c.at.result c.loop-i.list.items c.at.ensures c.loop-i.invariant in
    cc (c.in_ok-push.ensures.items)
