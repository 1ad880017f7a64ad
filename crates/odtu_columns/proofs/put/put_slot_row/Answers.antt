use Rattle.std.proofs.Common.{◌≡◌, ◌∷◌, ◌/◌, [], length, ◌∙◌, arith}
use Rattle.frame_geometry.specs.Loans.{after_row_loan-whole}
use Rattle.otn_base.specs.LineSlots.{slots_of}
use Rattle.odtu_columns.proofs.LineCycles.{number_of}
use Rattle.odtu_columns.proofs.PutRows.{row_was_put}
use Rattle.odtu_columns.proofs.PutBack.{one_slot, slot_put, slot_kept, slot_back}
use Rattle.odtu_columns.proofs.put.put_slot_row.Goals as goal

pub returns-clause-put : goal.returns-clause-put
returns-clause-put c =
    let row = c.payload_row_mut.ensures in
    let put = c.put_one.ensures in
    let new = c.put_one.new.cycles in
    let old = c.payload_row_mut.result.now in
    let slot = c.args.slot in
    let line = slots_of c.args.kind in
    let long : length new ≡ 3808 = c.put_one.auto.cycles ∙ row.size in
    rw (after_row_loan-whole 4080 c.args.row c.args.frame.now new long row.frame (omega arith) c.requires.row_low c.requires.row_high)
    (row_was_put line (slot ∷ []) c.args.bytes.now c.args.frame.now old new c.args.row (number_of c.args.kind) c.requires.row_low c.requires.row_high
    (one_slot line slot c.requires.slot_low c.requires.slot_high) (omega arith) row.bytes long
    (slot_put line slot (3808 / line) c.args.bytes.now new c.requires.slot_low (λ j h. put.here j (omega arith))) (slot_kept line slot old new put.others))

pub returns-clause-bytes : goal.returns-clause-bytes
returns-clause-bytes c = slot_back (slots_of c.args.kind) c.args.slot c.args.row c.args.bytes.now c.args.frame.now _ (number_of c.args.kind) c.requires.slot_low c.requires.slot_high (returns-clause-put c) c.requires.size
