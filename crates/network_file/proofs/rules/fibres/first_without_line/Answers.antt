use Rattle.std.proofs.Common.{◌+◌, ◌∙◌, sym, ap}
use Rattle.plan_file.specs.Places.{first}
use Rattle.plan_file.proofs.Steps.{places_go, places_stop}
use Rattle.network_file.specs.Rules.{lacks_line}
use Rattle.network_file.proofs.rules.fibres.first_without_line.Goals as goal

pub returns-then-lacks_line : goal.returns-then-lacks_line
returns-then-lacks_line c =
    sym (ap first c.loop-i.invariant
    ∙ places_stop lacks_line (c.loop-i.i + 1) c.args.fibres.now c.loop-i.i c.item.result.now c.item.ensures (sym c.if-lacks_line.ensures))

pub loop-i-preserved : goal.loop-i-preserved
loop-i-preserved c =
    c.loop-i.invariant
    ∙ places_go lacks_line (c.loop-i.i + 1) c.args.fibres.now c.loop-i.i c.item.result.now c.item.ensures (sym c.if-lacks_line.ensures)
