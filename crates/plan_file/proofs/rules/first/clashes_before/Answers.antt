use Rattle.std.proofs.Common.{◌∙◌, sym, take, arith}
use Rattle.plan_file.specs.PlanRules.{clashes}
use Rattle.plan_file.specs.Steps.Seen.{entries_in, entry_in}
use Rattle.plan_file.proofs.Steps.{any_go, any_stop, slice_get_front}
use Rattle.plan_file.proofs.rules.first.clashes_before.Goals as goal

pub returns-then-clashes : goal.returns-then-clashes
returns-then-clashes c =
    let entries = entries_in c.args.entries.now in
    let known = slice_get_front entries c.args.count c.loop-i.i (entry_in c.at.result) (omega arith) c.at.ensures in
    sym (c.loop-i.invariant ∙ any_stop (λ earlier. clashes c.args.rule earlier (entry_in c.args.later.now)) (take c.args.count entries) c.loop-i.i (entry_in c.at.result) known (sym c.if-clashes.ensures))

pub loop-i-preserved : goal.loop-i-preserved
loop-i-preserved c =
    let entries = entries_in c.args.entries.now in
    let known = slice_get_front entries c.args.count c.loop-i.i (entry_in c.at.result) (omega arith) c.at.ensures in
    c.loop-i.invariant ∙ any_go (λ earlier. clashes c.args.rule earlier (entry_in c.args.later.now)) (take c.args.count entries) c.loop-i.i (entry_in c.at.result) known (sym c.if-clashes.ensures)
