use Rattle.std.proofs.Common.{◌≡◌, length}
use Rattle.otn_network.proofs.running.open_all.Given as goal

-- the places of each node so far
abbrev pub invariant-loop-index : goal.invariant-loop-index
invariant-loop-index l = length l.places.items ≡ l.index
