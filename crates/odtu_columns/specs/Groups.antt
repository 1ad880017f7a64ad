-- Believed: the groups of the slots that one ODTU takes.
use Rattle.std.specs.Prelude.{ℕ, ◌+◌, ◌-◌, ◌*◌, ◌/◌, ◌%◌, List, map, slice_index}
use Rattle.std.specs.List.{range_with_len, flat_map}
use Rattle.frame_geometry.specs.Places.{place_of}
use Rattle.otn_base.specs.declared.limits.TheConstants.{LINE_COLUMNS, PAYLOAD_COLUMNS}

-- G.709 clause 19.1: cycle x, from 0, of a row is its x-th run of as many payload columns as the line has slots. A
-- group has a byte of each of the slots, in slot order.
abbrev pub group_at : (line_slots : ℕ) → (slots : List ℕ) → (row cycle : ℕ) → (frame : List ℕ) → List ℕ
group_at line_slots slots row cycle frame = map
    (λ slot. slice_index frame (place_of LINE_COLUMNS row (16 + line_slots * cycle + slot))) slots

-- The groups of a row, one after the other.
unfoldable pub row_groups_of : (line_slots : ℕ) → (slots : List ℕ) → (row : ℕ) → (frame : List ℕ) → List ℕ
row_groups_of line_slots slots row frame = flat_map (λ cycle. group_at line_slots slots row cycle frame)
    (range_with_len 0 (PAYLOAD_COLUMNS / line_slots))

-- Group g of a frame, from 1: its cycles are counted on from row to row.
abbrev pub frame_group : (line_slots : ℕ) → (slots : List ℕ) → (g : ℕ) → (frame : List ℕ) → List ℕ
frame_group line_slots slots g frame =
    let cycles = PAYLOAD_COLUMNS / line_slots in
    group_at line_slots slots ((g - 1) / cycles + 1) ((g - 1) % cycles) frame
