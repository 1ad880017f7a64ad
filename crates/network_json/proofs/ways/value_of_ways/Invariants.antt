use Rattle.std.proofs.Common.{◌≡◌, length, take, flat_map}
use Rattle.std.specs.Prelude.{map}
use Rattle.serde_json.specs.View.{view}
use Rattle.network_view.specs.Ways.{way_at}
use Rattle.network_json.specs.NetworkJson.{way_data}
use Rattle.network_json.proofs.ways.value_of_ways.Given as goal

-- the ways that end at the entries so far
abbrev pub invariant-loop-end : goal.invariant-loop-end
invariant-loop-end l = map view l.list.items ≡ map (way_data l.named) (flat_map (way_at l.named.network (length l.legs)) (take l.end-index l.legs))
