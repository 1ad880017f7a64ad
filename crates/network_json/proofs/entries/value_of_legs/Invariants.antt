use Rattle.std.proofs.Common.{◌≡◌, take}
use Rattle.std.specs.Prelude.{map}
use Rattle.serde_json.specs.View.{view}
use Rattle.network_json.specs.NetworkJson.{leg_data}
use Rattle.network_json.proofs.entries.value_of_legs.Given as goal

-- the entries so far
abbrev pub invariant-loop-leg : goal.invariant-loop-leg
invariant-loop-leg l = map view l.list.items ≡ map (leg_data l.named) (take l.leg-index l.legs)
