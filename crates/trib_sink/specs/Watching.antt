-- API: the watches over the slots of a line.
use Rattle.std.specs.Prelude.{ℕ, ◌-◌, ◌≤◌, List, All, slice_index_or}
use Rattle.otn_base.specs.declared.limits.TheConstants.{MOST_SLOTS}
use Rattle.msi_table.specs.Marks.{Watch, HasTaken}

-- each of as many watches as a line has slots at most has read the MSI bytes of its slot
pub record Watched (port : ℕ) (read : ℕ → List ℕ) (watches : List Watch) : Type 0 where
  pub each : (k : ℕ) (d : Watch) → 1 ≤ k → k ≤ MOST_SLOTS → HasTaken port (read k) (slice_index_or watches (k - 1) d)

-- bytes, each with its slot, of slots that a line can have
abbrev pub AreOfSlots : List (ℕ × ℕ) → Type 0
AreOfSlots msi = All (λ p. (1 ≤ p.0) × (p.0 ≤ MOST_SLOTS)) msi
