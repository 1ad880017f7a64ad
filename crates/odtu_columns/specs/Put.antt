-- API: what a frame holds after the groups of some of a line's slots were put into a row.
use Rattle.std.specs.Prelude.{◌≡◌, ℕ, ◌+◌, ◌-◌, ◌*◌, ◌/◌, ◌<◌, ◌≤◌, List, length, slice_index}
use Rattle.frame_geometry.specs.Places.{place_of}
use Rattle.otn_base.specs.declared.limits.TheConstants.{LINE_COLUMNS, OTU2_SLOTS, PAYLOAD_COLUMNS, ROWS}

-- G.709 clause 19.1: the place of slot number i, from 0, of these in a cycle, from 0, of a row
abbrev pub slot_place : (line_slots : ℕ) → (slots : List ℕ) → (row cycle i : ℕ) → ℕ
slot_place line_slots slots row cycle i = place_of LINE_COLUMNS row (16 + line_slots * cycle + slice_index slots i)

-- G.709 clause 19.1: the bytes are those of all groups of a row, one after the other, each with a byte for each of the
-- slots in their order. They stand in the columns of the slots, and every other byte is as before.
pub record RowWasPut (line_slots : ℕ) (slots : List ℕ) (row : ℕ) (bytes before now : List ℕ) : Type 0 where
  pub put : (cycle i : ℕ) → cycle < PAYLOAD_COLUMNS / line_slots → i < length slots
      → slice_index now (slot_place line_slots slots row cycle i) ≡ slice_index bytes (length slots * cycle + i)
  pub kept : (place : ℕ) → ((cycle i : ℕ) → cycle < PAYLOAD_COLUMNS / line_slots → i < length slots
      → place ≡ slot_place line_slots slots row cycle i → ⊥) → slice_index now place ≡ slice_index before place

-- G.709 clause 19.1: the bytes are those of one slot of an OTU2 in a frame, row by row. They stand in the columns of
-- that slot, the only one of these, and every other byte is as before.
pub record SlotWasPut (slots bytes before now : List ℕ) : Type 0 where
  pub put : (row cycle : ℕ) → 1 ≤ row → row ≤ ROWS → cycle < PAYLOAD_COLUMNS / OTU2_SLOTS
      → slice_index now (slot_place OTU2_SLOTS slots row cycle 0)
      ≡ slice_index bytes (PAYLOAD_COLUMNS / OTU2_SLOTS * (row - 1) + cycle)
  pub kept : (place : ℕ) → ((row cycle : ℕ) → 1 ≤ row → row ≤ ROWS → cycle < PAYLOAD_COLUMNS / OTU2_SLOTS
      → place ≡ slot_place OTU2_SLOTS slots row cycle 0 → ⊥) → slice_index now place ≡ slice_index before place
