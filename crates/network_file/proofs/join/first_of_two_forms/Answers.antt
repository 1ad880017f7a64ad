use Rattle.std.proofs.Common.{◌+◌, ◌∙◌, sym, ap}
use Rattle.plan_file.specs.Places.{first}
use Rattle.plan_file.proofs.Steps.{places_go, places_stop}
use Rattle.network_file.specs.Joining.{has_two_forms}
use Rattle.network_file.proofs.join.first_of_two_forms.Goals as goal

pub returns-then-has_two_forms : goal.returns-then-has_two_forms
returns-then-has_two_forms c =
    sym (ap first c.loop-i.invariant
    ∙ places_stop (has_two_forms c.args.plans.now) (c.loop-i.i + 1) c.args.fibres.now c.loop-i.i c.item.result.now c.item.ensures
    (sym c.if-has_two_forms.ensures))

pub loop-i-preserved : goal.loop-i-preserved
loop-i-preserved c =
    c.loop-i.invariant
    ∙ places_go (has_two_forms c.args.plans.now) (c.loop-i.i + 1) c.args.fibres.now c.loop-i.i c.item.result.now c.item.ensures
    (sym c.if-has_two_forms.ensures)
