use Rattle.std.proofs.Common.{◌∙◌, sym, take, arith}
use Rattle.plan_file.proofs.Steps.{any_go, any_stop, slice_get_front}
use Rattle.network_file.specs.Rules.{have_one_name}
use Rattle.network_file.proofs.rules.names.has_name_before.Goals as goal

pub returns-then-have_one_name : goal.returns-then-have_one_name
returns-then-have_one_name c =
    let nodes = c.args.nodes.now in
    let known = slice_get_front nodes c.args.count c.loop-i.i c.item.result.now (omega arith) c.item.ensures in
    sym (c.loop-i.invariant
    ∙ any_stop (λ earlier. have_one_name earlier c.args.later.now) (take c.args.count nodes) c.loop-i.i c.item.result.now known
    (sym c.if-have_one_name.ensures))

pub loop-i-preserved : goal.loop-i-preserved
loop-i-preserved c =
    let nodes = c.args.nodes.now in
    let known = slice_get_front nodes c.args.count c.loop-i.i c.item.result.now (omega arith) c.item.ensures in
    c.loop-i.invariant
    ∙ any_go (λ earlier. have_one_name earlier c.args.later.now) (take c.args.count nodes) c.loop-i.i c.item.result.now known
    (sym c.if-have_one_name.ensures)
