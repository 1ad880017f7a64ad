use Rattle.std.proofs.Common.{◌≡◌, map, take}
use Rattle.toml.specs.View.{view}
use Rattle.network_file.specs.Table.{cut_at}
use Rattle.network_file.proofs.outline.whole.cuts_of.Given as goal

abbrev pub invariant-loop-i : goal.invariant-loop-i
invariant-loop-i l = l.list.items ≡ take l.i (map cut_at (map view l.values))
