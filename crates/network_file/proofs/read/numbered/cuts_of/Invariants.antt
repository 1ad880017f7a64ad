use Rattle.std.proofs.Common.{◌≡◌, map, take}
use Rattle.network_file.specs.Outline.{cut_of}
use Rattle.network_file.proofs.read.numbered.cuts_of.Given as goal

abbrev pub invariant-loop-i : goal.invariant-loop-i
invariant-loop-i l = l.list.items ≡ take l.i (map cut_of l.cuts)
