use Rattle.std.proofs.Common.{◌+◌, ◌∙◌, sym, ap}
use Rattle.plan_file.specs.Places.{first}
use Rattle.plan_file.proofs.Steps.{places_go, places_stop}
use Rattle.network_file.specs.Rules.{lacks_fibre}
use Rattle.network_file.proofs.rules.cuts.first_without_fibre.Goals as goal

pub returns-then-lacks_fibre : goal.returns-then-lacks_fibre
returns-then-lacks_fibre c =
    sym (ap first c.loop-i.invariant
    ∙ places_stop (lacks_fibre c.args.count) (c.loop-i.i + 1) c.args.cuts.now c.loop-i.i c.item.result.now c.item.ensures (sym c.if-lacks_fibre.ensures))

pub loop-i-preserved : goal.loop-i-preserved
loop-i-preserved c =
    c.loop-i.invariant
    ∙ places_go (lacks_fibre c.args.count) (c.loop-i.i + 1) c.args.cuts.now c.loop-i.i c.item.result.now c.item.ensures (sym c.if-lacks_fibre.ensures)
