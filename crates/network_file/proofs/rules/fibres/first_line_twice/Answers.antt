use Rattle.std.proofs.Common.{◌∙◌, sym, ap}
use Rattle.plan_file.specs.Places.{first}
use Rattle.plan_file.proofs.Steps.{later_go, later_stop}
use Rattle.network_file.specs.Rules.{lead_to_one_line}
use Rattle.network_file.proofs.rules.fibres.first_line_twice.Goals as goal

pub returns-then-is_line_taken : goal.returns-then-is_line_taken
returns-then-is_line_taken c =
    sym (ap first c.loop-i.invariant
    ∙ later_stop lead_to_one_line c.args.fibres.now c.loop-i.i c.item.result.now c.item.ensures (sym c.if-is_line_taken.ensures))

pub loop-i-preserved : goal.loop-i-preserved
loop-i-preserved c =
    c.loop-i.invariant ∙ later_go lead_to_one_line c.args.fibres.now c.loop-i.i c.item.result.now c.item.ensures (sym c.if-is_line_taken.ensures)
