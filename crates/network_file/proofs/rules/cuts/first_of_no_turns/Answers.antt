use Rattle.std.proofs.Common.{◌+◌, ◌∙◌, sym, ap}
use Rattle.plan_file.specs.Places.{first}
use Rattle.plan_file.proofs.Steps.{places_go, places_stop}
use Rattle.network_file.specs.Rules.{breaks_turns}
use Rattle.network_file.proofs.rules.cuts.first_of_no_turns.Goals as goal

pub returns-then-breaks_turns : goal.returns-then-breaks_turns
returns-then-breaks_turns c =
    sym (ap first c.loop-i.invariant
    ∙ places_stop breaks_turns (c.loop-i.i + 1) c.args.cuts.now c.loop-i.i c.item.result.now c.item.ensures (sym c.if-breaks_turns.ensures))

pub loop-i-preserved : goal.loop-i-preserved
loop-i-preserved c =
    c.loop-i.invariant
    ∙ places_go breaks_turns (c.loop-i.i + 1) c.args.cuts.now c.loop-i.i c.item.result.now c.item.ensures (sym c.if-breaks_turns.ensures)
