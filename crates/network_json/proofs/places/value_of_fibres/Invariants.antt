use Rattle.std.proofs.Common.{◌≡◌, take, flat_map}
use Rattle.std.specs.Prelude.{map}
use Rattle.serde_json.specs.View.{view}
use Rattle.network_json.specs.NetworkJson.{fibre_at}
use Rattle.network_json.proofs.places.value_of_fibres.Given as goal

-- the fibres so far
abbrev pub invariant-loop-f : goal.invariant-loop-f
invariant-loop-f l = map view l.list.items ≡ flat_map (fibre_at l.named) (take l.f-index l.fibres)
