use Rattle.std.proofs.Common.{subst}
use Rattle.otn_base.specs.LineSlots.{slots_of}
use Rattle.odtu_columns.specs.BySlots.{frame_by_slots, message_frame}
use Rattle.odtu_columns.specs.Put.{RowWasPut}
use Rattle.odtu_columns.proofs.BySlots.{row_filled}
use Rattle.odtu_columns.proofs.LineCycles.{number_of}
use Rattle.odtu_columns.proofs.MessageFrames.{length-message_frame}
use Rattle.odtu_columns.proofs.slot_frame.SlotFrameFillFrame.lay_row_groups.Goals as goal

pub returns : goal.returns
returns g c =
    let i = c.self.inside in
    let kind = c.args.slots.now.kind in
    let list = c.args.slots.now.list in
    let bytes = g.G.RowGroups.groups c.args.groups.now in
    let new = c.put_in_row.new.payload in
    let put = c.put_in_row.ensures in
    let after = frame_by_slots (message_frame i.message) new in
    subst (λ before. RowWasPut (slots_of kind) list c.args.row bytes before after) c.self.view_is
    (subst (λ laid. RowWasPut (slots_of kind) list c.args.row laid (frame_by_slots (message_frame i.message) i.payload) after) c.lay.ensures
    (row_filled (slots_of kind) list c.lay.new.into (message_frame i.message) i.payload new c.args.row (number_of kind) c.requires.row_low c.requires.row_high put.list (length-message_frame i.message) put.put put.kept put.others))
