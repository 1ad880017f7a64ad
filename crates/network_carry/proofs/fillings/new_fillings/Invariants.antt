use Rattle.std.proofs.Common.{◌≡◌, map, take}
use Rattle.network_carry.specs.Fillings.{new_filling}
use Rattle.network_carry.proofs.fillings.new_fillings.Given as goal

-- a filling for each fibre so far
abbrev pub invariant-loop-i : goal.invariant-loop-i
invariant-loop-i l = l.fillings.items ≡ take l.i (map new_filling l.fibres)
