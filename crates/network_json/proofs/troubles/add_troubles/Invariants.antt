use Rattle.std.proofs.Common.{◌≡◌, ◌++◌, length, take, flat_map}
use Rattle.std.specs.Prelude.{map}
use Rattle.serde_json.specs.View.{view}
use Rattle.network_json.specs.NetworkJson.{trouble_at}
use Rattle.network_json.proofs.troubles.add_troubles.Given as goal

-- those so far, after the ones that were there
abbrev pub invariant-loop-leg : goal.invariant-loop-leg
invariant-loop-leg l =
    map view l.list.items ≡ map view l.initial.list.items ++ flat_map (trouble_at l.named (length l.legs) l.trouble) (take l.leg-index l.legs)
