use Rattle.std.proofs.Common.{◌≡◌, take}
use Rattle.network_view.specs.Entries.{legs_from}
use Rattle.network_view.proofs.named.legs_of.Given as goal

-- the entries of the nodes so far
abbrev pub invariant-loop-node : goal.invariant-loop-node
invariant-loop-node l = l.legs.items ≡ legs_from 0 (take l.node l.plans)
