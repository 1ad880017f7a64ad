use Rattle.std.proofs.Common.{◌≡◌, ◌/◌, ◌%◌, ◌+◌, ◌-◌, ap, subst, ◌∙◌}
use Rattle.frame_geometry.specs.Places.{payload_row_of}
use Rattle.otn_base.specs.LineSlots.{slots_of}
use Rattle.otn_base.specs.SlotList.{IsSlotList}
use Rattle.odtu_columns.specs.Payload.{payload_group}
use Rattle.odtu_columns.proofs.GroupRows.{each_slot, payload_group-frame}
use Rattle.odtu_columns.proofs.LineCycles.{number_of, group_cycle}
use Rattle.odtu_columns.proofs.groups.group.Goals as goal

pub returns : goal.returns
returns c =
    let frame = c.args.frame.now in
    let payload = c.payload_row.result.now in
    let before = c.args.g - 1 in
    let kind = c.args.slots.now.kind in
    let line = slots_of kind in
    let list = c.args.slots.now.list in
    let many : c.cycles_in_row-cycles.result ≡ 3808 / line = c.cycles_in_row-cycles.ensures.cycles ∙ ap (λ k. 3808 / slots_of k) c.kind.ensures.kind in
    let rising : IsSlotList line list = subst (λ k. IsSlotList (slots_of k) list) c.kind.ensures.kind c.kind.ensures.list in
    c.cycle_group.ensures
    ∙ ap (λ n. payload_group line payload list (before % n)) many
    ∙ ap (λ xs. payload_group line xs list (before % (3808 / line))) (c.payload_row.ensures.bytes ∙ ap (λ n. payload_row_of 4080 (before / n + 1) frame) many)
    ∙ payload_group-frame line (before / (3808 / line) + 1) (before % (3808 / line)) frame list (number_of kind) (group_cycle line c.args.g (number_of kind)) (each_slot line list rising)
