use Rattle.std.proofs.Common.{◌+◌, ◌∙◌, sym, ap}
use Rattle.plan_file.specs.Places.{first}
use Rattle.plan_file.proofs.Steps.{places_go, places_stop}
use Rattle.network_file.specs.Joining.{is_refused}
use Rattle.network_file.proofs.join.first_refused.Goals as goal

pub returns-then-is_refused : goal.returns-then-is_refused
returns-then-is_refused c =
    sym (ap first c.loop-i.invariant
    ∙ places_stop is_refused (c.loop-i.i + 1) c.args.plans.now c.loop-i.i c.item.result.now c.item.ensures (sym c.if-is_refused.ensures))

pub loop-i-preserved : goal.loop-i-preserved
loop-i-preserved c =
    c.loop-i.invariant
    ∙ places_go is_refused (c.loop-i.i + 1) c.args.plans.now c.loop-i.i c.item.result.now c.item.ensures (sym c.if-is_refused.ensures)
