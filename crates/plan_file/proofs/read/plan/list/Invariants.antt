use Rattle.std.proofs.Common.{◌≡◌, map, take}
use Rattle.plan_file.specs.Entry.{connection_of}
use Rattle.plan_file.specs.Steps.Seen.{entries_in}
use Rattle.plan_file.proofs.read.plan.list.Given as goal

abbrev pub invariant-loop-i : goal.invariant-loop-i
invariant-loop-i l = l.list.items ≡ take l.i (map connection_of (entries_in l.entries))
