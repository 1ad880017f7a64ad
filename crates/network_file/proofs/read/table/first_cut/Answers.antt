use Rattle.std.proofs.Common.{◌+◌, ◌∙◌, sym, ap, map}
use Rattle.toml.specs.View.{view}
use Rattle.plan_file.specs.Places.{first}
use Rattle.plan_file.proofs.Lists.{slice_get_known}
use Rattle.plan_file.proofs.Steps.{places_go, places_stop}
use Rattle.network_file.specs.Refusal.{breaks_cut}
use Rattle.network_file.proofs.read.table.first_cut.Goals as goal

pub returns-then-breaks_cut : goal.returns-then-breaks_cut
returns-then-breaks_cut c =
    let known = slice_get_known view c.args.cuts.now c.loop-i.i c.item.result.now c.item.ensures in
    sym (ap first c.loop-i.invariant
    ∙ places_stop (breaks_cut c.args.rule) (c.loop-i.i + 1) (map view c.args.cuts.now) c.loop-i.i (view c.item.result.now) known
    (sym c.if-breaks_cut.ensures))

pub loop-i-preserved : goal.loop-i-preserved
loop-i-preserved c =
    let known = slice_get_known view c.args.cuts.now c.loop-i.i c.item.result.now c.item.ensures in
    c.loop-i.invariant
    ∙ places_go (breaks_cut c.args.rule) (c.loop-i.i + 1) (map view c.args.cuts.now) c.loop-i.i (view c.item.result.now) known
    (sym c.if-breaks_cut.ensures)
