use Rattle.std.proofs.Common.{◌≡◌, length, arith, ◌∙◌}
use Rattle.odtu_columns.specs.Columns.{slot_row_of}
use Rattle.line_commands.specs.SlotReport.{slot_bytes}
use Rattle.command_base.proofs.Rows.{rows_filled, rows_whole, part_length}
use Rattle.line_commands.proofs.SlotBatches.{row_gathered}
use Rattle.line_commands.proofs.frames_at_hand.gather_slot.Goals as goal

pub loop-row-preserved : goal.loop-row-preserved
loop-row-preserved c =
    let room : length c.loop-row.into ≡ 1904 = omega (arith, c.loop-row.auto.into, c.requires.room) in
    let wide : length c.take_slot.new.into ≡ 476 = c.take_slot.auto.into ∙ part_length c.loop-row.into c.loop-row.row room c.loop-row-test.true in
    rows_filled (λ row. slot_row_of 8 c.args.slot row c.args.frame.now) c.loop-row.into c.take_slot.new.into c.loop-row.row c.loop-row.invariant wide (omega arith) room
    (row_gathered c.args.slot c.loop-row.row c.args.frame.now c.take_slot.new.into c.requires.low c.requires.high wide (λ j h. c.take_slot.ensures j (omega arith)))

pub returns : goal.returns
unfolding slot_bytes
returns c = rows_whole (λ row. slot_row_of 8 c.args.slot row c.args.frame.now) c.loop-row.into c.loop-row.row c.loop-row.invariant (omega arith) (omega (arith, c.loop-row.auto.into, c.requires.room))
