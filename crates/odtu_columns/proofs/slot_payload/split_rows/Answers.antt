use Rattle.odtu_columns.proofs.SlotRuns.{four_split}
use Rattle.odtu_columns.proofs.slot_payload.split_rows.Goals as goal

pub returns : goal.returns
returns c =
    let one = c.split_row.ensures in
    let two = c.split_row-2.ensures in
    let three = c.split_row-3.ensures in
    let four = c.split_row-4.ensures in
    four_split c.args.frame.now c.split_row.new.into c.split_row-2.new.into c.split_row-3.new.into c.split_row-4.new.into
    one.here two.here two.others three.here three.others four.here four.others
