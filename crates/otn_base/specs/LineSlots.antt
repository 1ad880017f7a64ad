-- Believed: the tributary slots of a line.
use Rattle.std.specs.Prelude.{◌≡◌, ◌⊎◌, ℕ, List}
use Rattle.otn_base.specs.declared.limits.TheConstants.{OTU2_SLOTS, OTU3_SLOTS}
use Rattle.otn_base.specs.declared.line_kind.LineKind.{LineKind}
use Rattle.otn_base.specs.declared.line_kind.LineKind.TheVariants.{Otu2, Otu3}

-- G.709 clause 19.1: an OPU2 has 8 slots of 1.25G, an OPU3 has 32; a multiframe has as many frames
abbrev pub slots_of : LineKind → ℕ
slots_of Otu2 = OTU2_SLOTS
slots_of Otu3 = OTU3_SLOTS

-- how many slots a line can have
abbrev pub IsSlotNumber : ℕ → Type 0
IsSlotNumber n = (n ≡ OTU2_SLOTS) ⊎ (n ≡ OTU3_SLOTS)

-- some slots of a line: its kind, and their numbers
pub record LineSlots : Type 0 where
  pub kind : LineKind
  pub list : List ℕ
