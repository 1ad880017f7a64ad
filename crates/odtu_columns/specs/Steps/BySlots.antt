-- Steps of `clear_beside_payload`, `clear_between_rows` and others: what private contracts alone cite, beside the
-- definitions of `BySlots`.
use Rattle.std.specs.Prelude.{◌≡◌, ℕ, ◌+◌, ◌-◌, ◌<◌, ◌≤◌, List, length, slice_index}
use Rattle.frame_geometry.specs.Places.{place_of}
use Rattle.otn_base.specs.declared.limits.TheConstants.{LINE_COLUMNS, LINE_FRAME_BYTES, PAYLOAD_COLUMNS}
use Rattle.odtu_columns.specs.BySlots.{slot_byte}

-- a place that is of no payload column
abbrev pub IsOutside : (place : ℕ) → Type 0
IsOutside place = (row x : ℕ) → 1 ≤ row → row ≤ 4 → x < PAYLOAD_COLUMNS → place ≡ place_of LINE_COLUMNS row (17 + x) → ⊥

-- The payload of a row was written out of the bytes of the slots of a frame, and every other byte is as before.
pub record RowJoined (slots : List ℕ) (row : ℕ) (before now : List ℕ) : Type 0 where
  pub size : length now ≡ LINE_FRAME_BYTES
  pub here : (x : ℕ) → x < PAYLOAD_COLUMNS
      → slice_index now (place_of LINE_COLUMNS row (17 + x)) ≡ slot_byte slots (row - 1) x
  pub kept : (place : ℕ) → ((x : ℕ) → x < PAYLOAD_COLUMNS → place ≡ place_of LINE_COLUMNS row (17 + x) → ⊥)
      → slice_index now place ≡ slice_index before place
