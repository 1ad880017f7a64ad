use Rattle.std.proofs.Common.{◌≡◌, ◌/◌, ap, subst, ◌∙◌}
use Rattle.otn_base.specs.LineSlots.{slots_of}
use Rattle.otn_base.specs.SlotList.{IsSlotList}
use Rattle.odtu_columns.specs.Payload.{run_groups}
use Rattle.odtu_columns.proofs.GroupRows.{each_slot, payload_groups-frame, run_groups-row}
use Rattle.odtu_columns.proofs.LineCycles.{number_of}
use Rattle.odtu_columns.proofs.groups.row_groups.Goals as goal

pub returns : goal.returns
returns c =
    let payload = c.payload_row.result.now in
    let kind = c.args.slots.now.kind in
    let line = slots_of kind in
    let list = c.args.slots.now.list in
    let many : c.cycles_in_row-cycles.result ≡ 3808 / line = c.cycles_in_row-cycles.ensures.cycles ∙ ap (λ k. 3808 / slots_of k) c.kind.ensures.kind in
    let rising : IsSlotList line list = subst (λ k. IsSlotList (slots_of k) list) c.kind.ensures.kind c.kind.ensures.list in
    c.cycle_groups.ensures
    ∙ ap (run_groups line payload list 0) many
    ∙ run_groups-row line payload list (3808 / line)
    ∙ payload_groups-frame line c.args.row c.args.frame.now payload list (number_of kind) c.payload_row.ensures.bytes (each_slot line list rising)
