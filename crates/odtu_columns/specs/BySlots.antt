-- API: a line's frame whose payload is kept by the tributary slots of an OTU2.
use Rattle.std.specs.Prelude.{◌≡◌, ℕ, ◌+◌, ◌-◌, ◌*◌, ◌/◌, ◌%◌, ◌<◌, ◌≤◌, Bool, false, ◌&&◌, nat_le, nat_lt, if◌then◌else◌, ◌==◌, List, get_or, map, slice_index}
use Rattle.std.specs.List.{range_with_len}
use Rattle.frame_geometry.specs.Places.{place_of}
use Rattle.otn_base.specs.declared.limits.TheConstants.{LINE_COLUMNS, LINE_FRAME_BYTES, OTU2_SLOTS, PAYLOAD_COLUMNS, OVERHEAD_COLUMNS, ROWS}

-- G.709 clause 12.1: the payload of a row stands in columns 17 to 3824
abbrev pub is_payload : (place : ℕ) → Bool
is_payload place = nat_le OVERHEAD_COLUMNS (place % LINE_COLUMNS)
    && nat_lt (place % LINE_COLUMNS) (OVERHEAD_COLUMNS + PAYLOAD_COLUMNS)

-- G.709 clause 19.1: byte x, from 0, of the payload of a row, from 0, out of the bytes of the slots of a frame, which
-- stand one slot after the other, those of a slot row by row
abbrev pub slot_byte : (slots : List ℕ) → (row x : ℕ) → ℕ
slot_byte slots row x = slice_index slots (ROWS * (PAYLOAD_COLUMNS / OTU2_SLOTS) * (x % OTU2_SLOTS)
    + PAYLOAD_COLUMNS / OTU2_SLOTS * row + x / OTU2_SLOTS)

-- Byte n, from 0, of those of the slots of a frame: 0 where its slot is not filled.
abbrev pub filled_byte : (filled : List Bool) → (slots : List ℕ) → (n : ℕ) → ℕ
filled_byte filled slots n =
    if get_or filled (n / (ROWS * (PAYLOAD_COLUMNS / OTU2_SLOTS))) false then slice_index slots n else 0

unfoldable pub filled_slots : (filled : List Bool) → (slots : List ℕ) → List ℕ
filled_slots filled slots = map (filled_byte filled slots) (range_with_len 0 (ROWS * PAYLOAD_COLUMNS))

-- The byte at a place: in a payload column that of its slot, and else that of the frame.
unfoldable pub byte_by_slots : (frame slots : List ℕ) → (place : ℕ) → ℕ
byte_by_slots frame slots place =
    if is_payload place then slot_byte slots (place / LINE_COLUMNS) (place % LINE_COLUMNS - OVERHEAD_COLUMNS)
    else slice_index frame place

-- G.709 clause 19.4: the byte at a place of a frame that has this message, where all else is 0
abbrev pub message_byte : (message : List ℕ) → (place : ℕ) → ℕ
message_byte message place =
    let row = place / LINE_COLUMNS in
    if nat_lt row 3 && place % LINE_COLUMNS == 15 then slice_index message row
    else (if nat_lt row 3 && place % LINE_COLUMNS == 14 then slice_index message (3 + row) else 0)

unfoldable pub message_frame : (message : List ℕ) → List ℕ
message_frame message = map (message_byte message) (range_with_len 0 LINE_FRAME_BYTES)

-- The frame that these bytes of its slots, and the other bytes of this frame, stand for.
unfoldable pub frame_by_slots : (frame slots : List ℕ) → List ℕ
frame_by_slots frame slots = map (byte_by_slots frame slots) (range_with_len 0 LINE_FRAME_BYTES)

-- G.709 clause 19.1: the bytes of the slots of a frame's payload, one slot after the other, those of a slot row by row
pub record IsPayloadOf (frame by_slots : List ℕ) : Type 0 where
  pub bytes : (k row j : ℕ) → k < OTU2_SLOTS → 1 ≤ row → row ≤ ROWS → j < PAYLOAD_COLUMNS / OTU2_SLOTS
      → slice_index by_slots
      (ROWS * (PAYLOAD_COLUMNS / OTU2_SLOTS) * k + PAYLOAD_COLUMNS / OTU2_SLOTS * (row - 1) + j)
      ≡ slice_index frame (place_of LINE_COLUMNS row (17 + (OTU2_SLOTS * j + k)))
