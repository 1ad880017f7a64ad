-- Believed: which groups of a multiframe are data, and how many of them are.
use Rattle.std.specs.Prelude.{ℕ, zero, suc, ◌+◌, ◌*◌, ◌%◌, ◌<◌, nat_lt, Bool, if◌then◌else◌}
use Rattle.otn_base.specs.declared.limits.TheConstants.{GROUPS}

-- G.709 Annex D: group j of the 15,232 of a multiframe is data, at the number c of data groups, where
-- (j * c) mod 15232 is below c; else it is stuff
abbrev pub IsData : (c j : ℕ) → Type 0
IsData c j = (j * c) % GROUPS < c

-- the same as a test
abbrev pub is_data_at : (c j : ℕ) → Bool
is_data_at c j = nat_lt ((j * c) % GROUPS) c

-- how many of the groups 1 to j are data
abbrev pub data_count : (c j : ℕ) → ℕ
data_count c zero = 0
data_count c (suc j) = data_count c j + (if is_data_at c (suc j) then 1 else 0)

-- a run over the groups of a multiframe: the number of its data groups, and how many groups were asked so far
pub record Progress : Type 0 where
  pub cm : ℕ
  pub asked : ℕ
