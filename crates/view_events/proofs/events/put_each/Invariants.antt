use Rattle.std.proofs.Common.{◌≡◌, ◌++◌, take, flat_map}
use Rattle.view_events.specs.EventText.{sums_text}
use Rattle.view_events.proofs.events.put_each.Given as goal

-- the sums of the first of them are appended
abbrev pub invariant-loop-one : goal.invariant-loop-one
invariant-loop-one l = l.out.items ≡ l.initial.out.items ++ flat_map sums_text (take l.one-index l.tributaries)
