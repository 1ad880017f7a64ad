use Rattle.std.proofs.Common.{◌∙◌, sym, ap}
use Rattle.plan_file.specs.PlanRules.{clashes}
use Rattle.plan_file.specs.Places.{first}
use Rattle.plan_file.specs.Steps.Seen.{entries_in, entry_in}
use Rattle.plan_file.proofs.Steps.{later_go, later_stop}
use Rattle.plan_file.proofs.rules.first.first_clash.Goals as goal

pub returns-then-clashes_before-clause-place : goal.returns-then-clashes_before-clause-place
returns-then-clashes_before-clause-place c =
    sym (ap first c.loop-i.invariant
    ∙ later_stop (clashes c.args.rule) (entries_in c.args.entries.now) c.loop-i.i (entry_in c.at.result) c.at.ensures (sym c.if-clashes_before.ensures))

pub loop-i-preserved : goal.loop-i-preserved
loop-i-preserved c =
    c.loop-i.invariant
    ∙ later_go (clashes c.args.rule) (entries_in c.args.entries.now) c.loop-i.i (entry_in c.at.result) c.at.ensures (sym c.if-clashes_before.ensures)
