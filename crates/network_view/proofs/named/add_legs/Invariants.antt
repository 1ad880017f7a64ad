use Rattle.std.proofs.Common.{◌≡◌, ◌++◌, take}
use Rattle.network_view.specs.Entries.{legs_at}
use Rattle.network_view.proofs.named.add_legs.Given as goal

-- those so far, behind the ones that were there
abbrev pub invariant-loop-x : goal.invariant-loop-x
invariant-loop-x l = l.legs.items ≡ l.initial.legs.items ++ legs_at l.node (take l.x-index l.entries)
