use Rattle.std.proofs.Common.{◌≡◌, rules, to_z, of_z, w64}
use Rattle.plan_file.specs.Entry.{natural}
use Rattle.plan_file.specs.Rules.{is_within}
use Rattle.plan_file.specs.Seen.{numbers_in}
use Rattle.plan_file.proofs.Filled.{filled_more}
use Rattle.plan_file.proofs.Fitting.{all_at}
use Rattle.plan_file.proofs.read.number.words.Goals as goal

pub word-requires : goal.word-requires
word-requires c =
    let same : to_z w64 (of_z w64 c.at.result) ≡ c.at.result = search (rules, c.at.type_inv) in
    rw same (all_at (is_within 0 4294967295) (numbers_in c.args.numbers.now) c.loop-i.i c.at.result c.requires c.at.ensures)

pub loop-i-preserved : goal.loop-i-preserved
loop-i-preserved c =
    let same : to_z w64 (of_z w64 c.at.result) ≡ c.at.result = search (rules, c.at.type_inv) in
    let word : c.word.result ≡ natural c.at.result = rw same at c.word.ensures in
    let more = filled_more natural (numbers_in c.args.numbers.now) c.loop-i.i c.at.result c.loop-i.list.items c.at.ensures c.loop-i.invariant in
    cc (c.in_ok-push.ensures.items)
