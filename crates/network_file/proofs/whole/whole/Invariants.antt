use Rattle.std.proofs.Common.{◌≡◌, ◌+◌, ◌++◌, drop}
use Rattle.network_file.specs.Cuts.{whole_from}
use Rattle.network_file.proofs.whole.whole.Given as goal

-- the whole ones of the fibres so far, and those of the rest
abbrev pub invariant-loop-i : goal.invariant-loop-i
invariant-loop-i l = l.list.items ++ whole_from (l.i + 1) l.cuts (drop l.i l.fibres) ≡ whole_from 1 l.cuts l.fibres
