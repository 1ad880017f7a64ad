use Rattle.std.proofs.Common.{◌≡◌, length, arith}
use Rattle.frame_geometry.specs.Loans.{after_row_loan-whole}
use Rattle.odtu_columns.proofs.JoinRows.{row_joined}
use Rattle.odtu_columns.proofs.slot_frame.join_row.Goals as goal

pub returns-clause-joined : goal.returns-clause-joined
returns-clause-joined c =
    let row = c.payload_row_mut.ensures in
    let new = c.join_row.new.into in
    let long : length new ≡ 3808 = c.join_row.ensures.size in
    rw (after_row_loan-whole 4080 c.args.row c.args.frame.now new long row.frame (omega arith) c.requires.low c.requires.high)
    (row_joined c.args.slots.now c.args.frame.now new c.args.row c.requires.low c.requires.high row.frame long c.join_row.ensures.joined)
