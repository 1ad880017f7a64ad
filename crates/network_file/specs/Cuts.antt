-- Believed: the cuts of a network's file: which fibres are whole, and in which turns the others are dark.
use Rattle.std.specs.Prelude.{ℕ, ◌+◌, ◌==◌, nat_le, nat_lt, List, [], ◌∷◌, ◌++◌, Bool, ◌&&◌, if◌then◌else◌}
use Rattle.std.specs.List.{list_any}
use Rattle.plan_file.specs.declared.plan.Plan.{Plan}
use Rattle.network_laws.specs.Networks.{FibreEnds, Network}
use Rattle.network_file.specs.declared.cut.Cut.{Cut}
use Rattle.network_file.specs.declared.file.NetworkFile.{NetworkFile}

-- some cut is of the fibre of this number
abbrev pub is_cut : List Cut → ℕ → Bool
is_cut cuts number = list_any (λ cut. cut.fibre == number) cuts

-- the fibre of this number is dark in this turn: turns count from 1
abbrev pub is_dark : List Cut → (number turn : ℕ) → Bool
is_dark cuts number turn =
    list_any (λ cut. (cut.fibre == number) && (nat_le cut.from turn && nat_lt turn cut.until)) cuts

-- of fibres that count from this number those that no cut is of, in their order
abbrev pub whole_from : ℕ → List Cut → List FibreEnds → List FibreEnds
whole_from number cuts [] = []
whole_from number cuts (f ∷ fibres) = (if is_cut cuts number then [] else f ∷ []) ++ whole_from (number + 1) cuts fibres

-- the fibres of the file that no cut is of
abbrev pub whole_fibres : NetworkFile → List FibreEnds
whole_fibres file = whole_from 1 file.cuts file.fibres

-- the network of a file and these plans, without the fibres that are cut: the ends of these are lines from outside and
-- to the outside
abbrev pub whole_network : NetworkFile → List Plan → Network
whole_network file plans = record { plans = plans; fibres = whole_fibres file }
