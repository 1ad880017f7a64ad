use Rattle.std.proofs.Common.{◌∙◌, sym, take, arith}
use Rattle.plan_file.proofs.Steps.{any_go, any_stop, slice_get_front}
use Rattle.network_file.specs.Rules.{lead_to_one_line}
use Rattle.network_file.proofs.rules.fibres.is_line_taken.Goals as goal

pub returns-then-lead_to_one_line : goal.returns-then-lead_to_one_line
returns-then-lead_to_one_line c =
    let fibres = c.args.fibres.now in
    let known = slice_get_front fibres c.args.count c.loop-i.i c.item.result.now (omega arith) c.item.ensures in
    sym (c.loop-i.invariant
    ∙ any_stop (λ earlier. lead_to_one_line earlier c.args.later.now) (take c.args.count fibres) c.loop-i.i c.item.result.now known
    (sym c.if-lead_to_one_line.ensures))

pub loop-i-preserved : goal.loop-i-preserved
loop-i-preserved c =
    let fibres = c.args.fibres.now in
    let known = slice_get_front fibres c.args.count c.loop-i.i c.item.result.now (omega arith) c.item.ensures in
    c.loop-i.invariant
    ∙ any_go (λ earlier. lead_to_one_line earlier c.args.later.now) (take c.args.count fibres) c.loop-i.i c.item.result.now known
    (sym c.if-lead_to_one_line.ensures)
