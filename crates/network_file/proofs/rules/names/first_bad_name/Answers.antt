use Rattle.std.proofs.Common.{◌+◌, ◌∙◌, sym, ap}
use Rattle.plan_file.specs.Places.{first}
use Rattle.plan_file.proofs.Steps.{places_go, places_stop}
use Rattle.network_file.specs.Rules.{breaks_name}
use Rattle.network_file.proofs.rules.names.first_bad_name.Goals as goal

pub returns-then-breaks_name : goal.returns-then-breaks_name
returns-then-breaks_name c =
    sym (ap first c.loop-i.invariant
    ∙ places_stop breaks_name (c.loop-i.i + 1) c.args.nodes.now c.loop-i.i c.item.result.now c.item.ensures (sym c.if-breaks_name.ensures))

pub loop-i-preserved : goal.loop-i-preserved
loop-i-preserved c =
    c.loop-i.invariant
    ∙ places_go breaks_name (c.loop-i.i + 1) c.args.nodes.now c.loop-i.i c.item.result.now c.item.ensures (sym c.if-breaks_name.ensures)
