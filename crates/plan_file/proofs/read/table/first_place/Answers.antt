use Rattle.std.proofs.Common.{◌+◌, ◌∙◌, sym, ap, map}
use Rattle.toml.specs.View.{view}
use Rattle.plan_file.specs.TableRules.{breaks_in_table}
use Rattle.plan_file.specs.Places.{first}
use Rattle.plan_file.proofs.Lists.{slice_get_known}
use Rattle.plan_file.proofs.Steps.{places_go, places_stop}
use Rattle.plan_file.proofs.read.table.first_place.Goals as goal

pub returns-then-breaks_in_table : goal.returns-then-breaks_in_table
returns-then-breaks_in_table c =
    let known = slice_get_known view c.args.connections.now c.loop-i.i c.item.result.now c.item.ensures in
    sym (ap first c.loop-i.invariant
    ∙ places_stop (breaks_in_table c.args.rule) (c.loop-i.i + 1) (map view c.args.connections.now) c.loop-i.i (view c.item.result.now) known (sym c.if-breaks_in_table.ensures))

pub loop-i-preserved : goal.loop-i-preserved
loop-i-preserved c =
    let known = slice_get_known view c.args.connections.now c.loop-i.i c.item.result.now c.item.ensures in
    c.loop-i.invariant
    ∙ places_go (breaks_in_table c.args.rule) (c.loop-i.i + 1) (map view c.args.connections.now) c.loop-i.i (view c.item.result.now) known (sym c.if-breaks_in_table.ensures)
