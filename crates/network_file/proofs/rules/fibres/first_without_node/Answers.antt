use Rattle.std.proofs.Common.{◌+◌, ◌∙◌, sym, ap}
use Rattle.plan_file.specs.Places.{first}
use Rattle.plan_file.proofs.Steps.{places_go, places_stop}
use Rattle.network_file.specs.Rules.{lacks_node}
use Rattle.network_file.proofs.rules.fibres.first_without_node.Goals as goal

pub returns-then-lacks_node : goal.returns-then-lacks_node
returns-then-lacks_node c =
    sym (ap first c.loop-i.invariant
    ∙ places_stop (lacks_node c.args.nodes.now) (c.loop-i.i + 1) c.args.fibres.now c.loop-i.i c.item.result.now c.item.ensures (sym c.if-lacks_node.ensures))

pub loop-i-preserved : goal.loop-i-preserved
loop-i-preserved c =
    c.loop-i.invariant
    ∙ places_go (lacks_node c.args.nodes.now) (c.loop-i.i + 1) c.args.fibres.now c.loop-i.i c.item.result.now c.item.ensures (sym c.if-lacks_node.ensures)
