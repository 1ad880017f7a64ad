use Rattle.std.proofs.Common.{◌≡◌, take}
use Rattle.std.specs.Prelude.{map}
use Rattle.serde_json.specs.View.{view}
use Rattle.network_json.specs.NetworkJson.{nodes_from}
use Rattle.network_json.proofs.places.value_of_nodes.Given as goal

-- the nodes so far
abbrev pub invariant-loop-node : goal.invariant-loop-node
invariant-loop-node l = map view l.list.items ≡ nodes_from l.named 0 (take l.node l.plans)
