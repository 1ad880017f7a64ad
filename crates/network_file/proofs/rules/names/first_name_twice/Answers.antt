use Rattle.std.proofs.Common.{◌∙◌, sym, ap}
use Rattle.plan_file.specs.Places.{first}
use Rattle.plan_file.proofs.Steps.{later_go, later_stop}
use Rattle.network_file.specs.Rules.{have_one_name}
use Rattle.network_file.proofs.rules.names.first_name_twice.Goals as goal

pub returns-then-has_name_before : goal.returns-then-has_name_before
returns-then-has_name_before c =
    sym (ap first c.loop-i.invariant
    ∙ later_stop have_one_name c.args.nodes.now c.loop-i.i c.item.result.now c.item.ensures (sym c.if-has_name_before.ensures))

pub loop-i-preserved : goal.loop-i-preserved
loop-i-preserved c =
    c.loop-i.invariant ∙ later_go have_one_name c.args.nodes.now c.loop-i.i c.item.result.now c.item.ensures (sym c.if-has_name_before.ensures)
