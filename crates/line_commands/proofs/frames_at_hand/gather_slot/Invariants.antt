use Rattle.std.proofs.Common.{◌≡◌, ◌*◌, take}
use Rattle.std.specs.List.{flat_map, range_with_len}
use Rattle.odtu_columns.specs.Columns.{slot_row_of}
use Rattle.line_commands.proofs.frames_at_hand.gather_slot.Given as goal

-- the rows so far
abbrev pub invariant-loop-row : goal.invariant-loop-row
invariant-loop-row l = take (l.row * 476) l.into ≡ flat_map (λ row. slot_row_of 8 l.slot row l.frame) (range_with_len 1 l.row)
