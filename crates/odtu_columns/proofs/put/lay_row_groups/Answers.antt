use Rattle.std.proofs.Common.{◌≡◌, length, subst, ◌∙◌, arith}
use Rattle.frame_geometry.specs.Loans.{after_row_loan-whole}
use Rattle.frame_geometry.specs.Places.{with_payload_row}
use Rattle.otn_base.specs.LineSlots.{slots_of}
use Rattle.odtu_columns.specs.Put.{RowWasPut}
use Rattle.odtu_columns.proofs.LineCycles.{number_of}
use Rattle.odtu_columns.proofs.PutRows.{row_was_put}
use Rattle.odtu_columns.proofs.put.lay_row_groups.Goals as goal

pub returns : goal.returns
returns g c =
    let row = c.payload_row_mut.ensures in
    let put = c.lay_groups.ensures in
    let new = c.lay_groups.new.payload in
    let kind = c.kind-kind.result in
    let frame = c.args.frame.now in
    let bytes = g.G.RowGroups.groups c.args.groups.now in
    let long : length new ≡ 3808 = c.lay_groups.auto.payload ∙ row.size in
    let same = c.as_slice.ensures.bytes in
    let law = row_was_put (slots_of kind) c.as_slice.result.now bytes frame c.payload_row_mut.result.now new c.args.row (number_of kind) c.requires.row_low c.requires.row_high (rw same c.kind-kind.ensures.list) (omega arith) row.bytes long put.put put.kept in
    rw (after_row_loan-whole 4080 c.args.row frame new long row.frame (omega arith) c.requires.row_low c.requires.row_high)
    (subst (λ k. RowWasPut (slots_of k) c.args.slots.now.list c.args.row bytes frame (with_payload_row 4080 c.args.row frame new)) c.kind-kind.ensures.kind
    (subst (λ xs. RowWasPut (slots_of kind) xs c.args.row bytes frame (with_payload_row 4080 c.args.row frame new)) same law))
