use Rattle.std.proofs.Common.{◌≡◌, ◌+◌, drop}
use Rattle.network_file.specs.Outline.{index_of}
use Rattle.network_file.proofs.read.numbered.index_of.Given as goal

abbrev pub invariant-loop-i : goal.invariant-loop-i
invariant-loop-i l = index_of l.name l.nodes ≡ index_of l.name (drop l.i l.nodes) + l.i
