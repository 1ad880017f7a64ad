use Rattle.std.proofs.Common.{subst}
use Rattle.otn_base.specs.LineSlots.{slots_of}
use Rattle.odtu_columns.specs.BySlots.{frame_by_slots, message_frame}
use Rattle.odtu_columns.specs.Put.{RowWasPut}
use Rattle.odtu_columns.proofs.BySlots.{row_filled}
use Rattle.odtu_columns.proofs.LineCycles.{number_of}
use Rattle.odtu_columns.proofs.MessageFrames.{length-message_frame}
use Rattle.odtu_columns.proofs.PutBack.{row_back}
use Rattle.odtu_columns.proofs.slot_frame.SlotFrameFillFrame.fill_row_groups.Goals as goal

pub returns-clause-put : goal.returns-clause-put
returns-clause-put c =
    let i = c.self.inside in
    let kind = c.args.slots.now.kind in
    let list = c.args.slots.now.list in
    let new = c.put_in_row.new.payload in
    let put = c.put_in_row.ensures in
    subst (λ before. RowWasPut (slots_of kind) list c.args.row c.args.groups.now before (frame_by_slots (message_frame i.message) new)) c.self.view_is
    (row_filled (slots_of kind) list c.args.groups.now (message_frame i.message) i.payload new c.args.row (number_of kind) c.requires.row_low c.requires.row_high put.list (length-message_frame i.message) put.put put.kept put.others)

pub returns-clause-groups : goal.returns-clause-groups
returns-clause-groups c = row_back (slots_of c.args.slots.now.kind) c.args.slots.now.list c.args.groups.now c.args.self.now _ c.args.row (returns-clause-put c) c.requires.size
