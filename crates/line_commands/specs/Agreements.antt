-- API: lines that agree on what `slot` is to see of them.
use Rattle.std.specs.Prelude.{◌≡◌, ◌<◌, ◌≤◌, ◌/◌, ℕ, List, length, slice_index}
use Rattle.frame_geometry.specs.Places.{place_of}
use Rattle.line_side.specs.LineFile.{frame_at}
use Rattle.odtu_columns.specs.Columns.{slot_of}
use Rattle.otn_base.specs.declared.limits.TheConstants.{LAST_PAYLOAD_COLUMN, LINE_COLUMNS, LINE_FRAME_BYTES, OTU2_SLOTS, OVERHEAD_COLUMNS, ROWS}

-- two lines have as many whole frames, and the same bytes in the payload columns of a slot in each of them
pub record AgreeOnSlot (slot : ℕ) (one other : List ℕ) : Type 0 where
  pub frames : length one / LINE_FRAME_BYTES ≡ length other / LINE_FRAME_BYTES
  pub bytes : (f row column : ℕ) → f < length one / LINE_FRAME_BYTES → 1 ≤ row → row ≤ ROWS → OVERHEAD_COLUMNS < column
      → column ≤ LAST_PAYLOAD_COLUMN
      → slot_of OTU2_SLOTS column ≡ slot
      → slice_index (frame_at one f) (place_of LINE_COLUMNS row column)
      ≡ slice_index (frame_at other f) (place_of LINE_COLUMNS row column)
