use Rattle.std.proofs.Common.{◌≡◌, drop}
use Rattle.std.specs.List.{list_any}
use Rattle.device_model.specs.Moments.{touches}
use Rattle.turn_pieces.proofs.ports.is_touched.Given as goal

abbrev pub invariant-loop-connection : goal.invariant-loop-connection
invariant-loop-connection l = list_any (touches l.name) (drop l.connection-index l.connections) ≡ list_any (touches l.name) l.connections
