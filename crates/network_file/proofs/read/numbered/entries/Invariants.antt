use Rattle.std.proofs.Common.{◌≡◌, take}
use Rattle.network_file.proofs.read.numbered.entries.Given as goal

abbrev pub invariant-loop-i : goal.invariant-loop-i
invariant-loop-i l = l.list.items ≡ take l.i l.nodes
