use Rattle.std.proofs.Common.{◌≡◌, ◌∙◌, length}
use Rattle.frame_geometry.specs.Loans.{after_loan-whole}
use Rattle.odtu_columns.proofs.slot_frame.clear_beside_payload.Goals as goal

pub returns : goal.returns
returns c =
    let lent = c.as_bytes_mut.ensures in
    let size : length c.clear_between_rows.new.bytes ≡ 16320 = c.clear_between_rows.auto.bytes ∙ lent.size in
    rw (after_loan-whole 4080 c.args.frame.now c.clear_between_rows.new.bytes size) c.clear_between_rows.ensures
