-- Steps of `take_frame`, `take_rows` and others: what private contracts alone cite, beside the definitions of `Rows`.
use Rattle.std.specs.Prelude.{ℕ, ◌+◌, List, [], ◌∷◌, ◌++◌, if◌then◌else◌, length}
use Rattle.std.specs.List.{range_with_len, flat_map, enumerate_from}
use Rattle.otn_base.specs.declared.limits.TheConstants.{LINE_COLUMNS}
use Rattle.otn_base.specs.LineSlots.{LineSlots, slots_of}
use Rattle.gmp_rule.specs.DataRule.{is_data_at}
use Rattle.frame_geometry.specs.Places.{payload_row_of}
use Rattle.odtu_columns.specs.Payload.{payload_group}
use Rattle.trib_sink.specs.Extraction.{Extraction}
use Rattle.trib_sink.specs.Rows.{row_cycles}

-- G.709 Annex D: the bytes of the data groups among the first n cycles of a row, before whose first group stand so many
-- of the multiframe
unfoldable pub row_data : (line_slots c before : ℕ) → (payload slots : List ℕ) → (n : ℕ) → List ℕ
row_data line_slots c before payload slots n =
    flat_map (λ x. if is_data_at c (before + x + 1) then payload_group line_slots payload slots x else [])
    (range_with_len 0 n)

-- The bytes of the data groups among these of one byte each, before which stand so many of the multiframe: they are
-- those of a row of a line that has one slot.
abbrev pub own_data : (c before : ℕ) → (own : List ℕ) → List ℕ
own_data c before own = row_data 1 c before own (1 ∷ []) (length own)

-- the bytes of the data groups among these, before which stand so many of the multiframe
unfoldable pub data_from : (c before : ℕ) → List (List ℕ) → List ℕ
data_from c before groups = flat_map (λ p. if is_data_at c (p.0) then p.1 else []) (enumerate_from (before + 1) groups)

-- the bytes of the data groups of a row of a frame
abbrev pub frame_row_data : (c before : ℕ) → (slots : LineSlots) → (frame : List ℕ) → (row : ℕ) → List ℕ
frame_row_data c before slots frame row = row_data (slots_of slots.kind) c before
    (payload_row_of LINE_COLUMNS row frame) slots.list (row_cycles slots.kind)

-- some bytes, and behind them those of a row of a frame and of the next row
abbrev pub with_rows : (fresh : List ℕ) → (c before : ℕ) → (slots : LineSlots) → (frame : List ℕ) → (row : ℕ) → List ℕ
with_rows fresh c before slots frame row =
    fresh ++ frame_row_data c before slots frame row
    ++ frame_row_data c (before + row_cycles slots.kind) slots frame (row + 1)

-- those of a frame
abbrev pub with_frame : (fresh : List ℕ) → (c before : ℕ) → (slots : LineSlots) → (frame : List ℕ) → List ℕ
with_frame fresh c before slots frame =
    with_rows (with_rows fresh c before slots frame 1) c
    (before + row_cycles slots.kind + row_cycles slots.kind) slots frame 3

-- what is extracted when the data groups of a frame were taken too; what the last turn emitted is gone
abbrev pub after_frame : (slots : LineSlots) → (frame : List ℕ) → Extraction → Extraction
after_frame slots frame e = record e {
  asked = e.asked + row_cycles slots.kind + row_cycles slots.kind + row_cycles slots.kind + row_cycles slots.kind;
  fresh = with_frame e.fresh e.cm e.asked slots frame;
  emitted = [];
}
