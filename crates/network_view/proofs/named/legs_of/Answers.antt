use Rattle.std.proofs.Common.{◌∙◌, ◌++◌, ap, sym, arith}
use Rattle.plan_file.specs.declared.plan.Plan.{Plan}
use Rattle.network_view.specs.Entries.{legs_at}
use Rattle.network_view.proofs.Lists.{known_item, legs_none, legs_of_more}
use Rattle.network_view.proofs.named.legs_of.Goals as goal

pub loop-node-init : goal.loop-node-init
loop-node-init c = c.new-legs.ensures.items ∙ sym (legs_none 0)

pub loop-node-preserved : goal.loop-node-preserved
loop-node-preserved c =
    let plans = c.plans-plans.result.now in
    let i = c.loop-node.node in
    let plan = c.index-plans-node.result in
    let legs = c.loop-node.legs.items in
    legs_of_more plans i plan legs c.add_legs.new.legs.items (known_item plans i plan (let less = c.loop-node-test.true in omega arith) c.index-plans-node.is)
    c.loop-node.invariant (c.in_ok-add_legs.ensures ∙ ap (λ xs. legs ++ legs_at i xs) c.as_slice.ensures
    ∙ ap (λ (p : Plan). legs ++ legs_at i p.connections) (sym c.index-plans-node.is))
