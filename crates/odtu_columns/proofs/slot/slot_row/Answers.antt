use Rattle.std.proofs.Common.{◌≡◌, ◌/◌, length, ◌∙◌, arith}
use Rattle.otn_base.specs.LineSlots.{slots_of}
use Rattle.odtu_columns.proofs.LineCycles.{whole_cycles, number_of}
use Rattle.odtu_columns.proofs.Rows.{slot_row_is}
use Rattle.odtu_columns.proofs.slot.slot_row.Goals as goal

pub returns : goal.returns
returns c =
    let line = slots_of c.args.kind in
    let size : length c.take_one.new.into ≡ 3808 / line = c.take_one.auto.into ∙ c.requires.size in
    slot_row_is line (3808 / line) c.args.slot c.args.row c.args.frame.now c.payload_row.result.now c.take_one.new.into (whole_cycles line (number_of c.args.kind))
    c.requires.slot_low c.requires.slot_high c.payload_row.ensures.bytes size (λ cycle h. c.take_one.ensures cycle (omega arith))
