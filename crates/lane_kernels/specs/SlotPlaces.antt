-- API: where the bytes of tributary slots stand, in a row and slot after slot.
use Rattle.std.specs.Prelude.{◌≡◌, ℕ, ◌-◌, ◌*◌, ◌/◌, ◌⊎◌, List, take, drop}
use Rattle.otn_base.specs.declared.limits.TheConstants.{OTU2_SLOTS, OTU3_SLOTS, PAYLOAD_COLUMNS}

-- A line has 8 tributary slots, with 476 payload columns of a row each, or 32 with 119.
abbrev pub IsSlotCount : ℕ → Type 0
IsSlotCount slots = (slots ≡ OTU2_SLOTS) ⊎ (slots ≡ OTU3_SLOTS)

-- The bytes of a slot, from 1, among those of all slots of a row, one slot after the other.
abbrev pub slot_bytes : (slots slot : ℕ) → List ℕ → List ℕ
slot_bytes slots slot rows = take (PAYLOAD_COLUMNS / slots) (drop (PAYLOAD_COLUMNS / slots * (slot - 1)) rows)
