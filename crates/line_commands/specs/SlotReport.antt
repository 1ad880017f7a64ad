-- Believed: what `slot` writes.
use Rattle.std.specs.Prelude.{◌≡◌, ℕ, ◌+◌, ◌*◌, ◌/◌, ◌<◌, min, List, Option, length}
use Rattle.std.specs.List.{flat_map, range_with_len}
use Rattle.line_side.specs.LineFile.{frame_at}
use Rattle.odtu_columns.specs.Columns.{slot_row_of}
use Rattle.port_base.specs.Bytes.{after}
use Rattle.command_base.specs.Gains.{GainsPart}
use Rattle.otn_base.specs.declared.limits.TheConstants.{LINE_FRAME_BYTES, MOST_FRAMES, OTU2_SLOTS, ROWS}

-- of so many bytes, how many frames are whole, and of these how many are used: 131,072 at most
unfoldable pub whole_frames_used : ℕ → ℕ
whole_frames_used n = min MOST_FRAMES (n / LINE_FRAME_BYTES)

-- how many bytes `slot` takes at most: those of the most frames, and one more
abbrev pub most_read_of_line : ℕ
most_read_of_line = MOST_FRAMES * LINE_FRAME_BYTES + 1

-- the payload bytes of a slot in a frame, row by row
unfoldable pub slot_bytes : (slot : ℕ) → List ℕ → List ℕ
slot_bytes slot frame = flat_map (λ row. slot_row_of OTU2_SLOTS slot row frame) (range_with_len 1 ROWS)

-- the same of the first n frames of a line, in order
unfoldable pub slot_bytes_until : (slot : ℕ) → List ℕ → (n : ℕ) → List ℕ
slot_bytes_until slot bytes n = flat_map (λ f. slot_bytes slot (frame_at bytes f)) (range_with_len 0 n)

-- what `slot` writes where a line gives these bytes: the slot's payload bytes of each whole frame that is used
unfoldable pub slot_report : (slot : ℕ) → List ℕ → List ℕ
slot_report slot bytes = slot_bytes_until slot bytes (whole_frames_used (length bytes))

-- so many bytes are more than the whole frames among them that are used
abbrev pub HasBytesBehind : (bytes : ℕ) → Type 0
HasBytesBehind bytes = whole_frames_used bytes * LINE_FRAME_BYTES < bytes

-- A write failed, and ended the command at once: of a line of these bytes so many were taken, up to the end of frame f,
-- from 0. The report gained the slot's bytes of the frames before it, and of its own a part, from the front, and not
-- all.
pub record StoppedInFrame (slot : ℕ) (available : List ℕ) (count : ℕ) (old new : Option (List ℕ)) : Type 0 where
  pub f : ℕ
  pub last : count ≡ LINE_FRAME_BYTES * (f + 1)
  pub gained : GainsPart (after old (slot_bytes_until slot available f)) new (slot_bytes slot (frame_at available f))
