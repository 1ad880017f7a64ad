use Rattle.std.proofs.Common.{◌≡◌, take}
use Rattle.std.specs.Prelude.{map}
use Rattle.serde_json.specs.View.{view}
use Rattle.network_json.specs.NetworkJson.{name_data}
use Rattle.network_json.proofs.places.value_of_names.Given as goal

-- the names so far
abbrev pub invariant-loop-x : goal.invariant-loop-x
invariant-loop-x l = map view l.list.items ≡ map name_data (take l.x-index l.entries)
