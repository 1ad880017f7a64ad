use Rattle.std.proofs.Common.{◌≡◌, map, take}
use Rattle.network_file.specs.Outline.{ends_of}
use Rattle.network_file.proofs.read.numbered.ends.Given as goal

abbrev pub invariant-loop-i : goal.invariant-loop-i
invariant-loop-i l = l.list.items ≡ take l.i (map (ends_of l.nodes) l.fibres)
