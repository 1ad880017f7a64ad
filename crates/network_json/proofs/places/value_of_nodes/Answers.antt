use Rattle.std.proofs.Common.{◌≡◌, ◌∙◌, ap, sym, arith}
use Rattle.std.specs.Prelude.{map}
use Rattle.serde_json.specs.View.{view}
use Rattle.network_view.proofs.Lists.{known_item}
use Rattle.network_json.specs.NetworkJson.{node_data}
use Rattle.network_json.proofs.Added.{node_more, nodes_none}
use Rattle.network_json.proofs.places.value_of_nodes.Goals as goal

pub loop-node-init : goal.loop-node-init
loop-node-init c = ap (map view) c.new-list.ensures.items ∙ sym (nodes_none c.args.named.now 0)

pub loop-node-preserved : goal.loop-node-preserved
loop-node-preserved c =
    let plans = c.plans-plans.result.now in
    let i = c.loop-node.node in
    let plan = c.index-plans-node.result in
    let value : view c.in_ok-value.value ≡ node_data c.args.named.now i plan = let said = c.in_ok-value.ensures in let is = c.index-plans-node.is in cc in
    node_more c.args.named.now plans i plan c.loop-node.list.items c.push.new.self.items c.in_ok-value.value
    (known_item plans i plan (let less = c.loop-node-test.true in omega arith) c.index-plans-node.is) c.loop-node.invariant value c.in_ok-push.ensures.items
