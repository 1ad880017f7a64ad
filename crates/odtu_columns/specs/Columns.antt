-- Believed: which columns of a frame belong to a tributary slot.
use Rattle.std.specs.Prelude.{ℕ, ◌+◌, ◌-◌, ◌%◌, ◌==◌, List, filter, map, slice_index}
use Rattle.std.specs.List.{range_with_len}
use Rattle.frame_geometry.specs.Places.{place_of}
use Rattle.otn_base.specs.declared.limits.TheConstants.{LINE_COLUMNS, PAYLOAD_COLUMNS}

-- G.709 clause 19.1: on a line of so many slots payload column c, 17 to 3824, is of slot ((c - 17) mod slots) + 1.
abbrev pub slot_of : (slots column : ℕ) → ℕ
slot_of slots column = (column - 17) % slots + 1

-- The columns of a slot, in rising order.
unfoldable pub columns_of : (slots slot : ℕ) → List ℕ
columns_of slots slot = filter (λ column. slot_of slots column == slot) (range_with_len 17 PAYLOAD_COLUMNS)

-- The bytes of a slot in a row of a line's frame, on a line of so many slots.
abbrev pub slot_row_of : (slots slot row : ℕ) → List ℕ → List ℕ
slot_row_of slots slot row frame = map (λ column. slice_index frame (place_of LINE_COLUMNS row column))
    (columns_of slots slot)
