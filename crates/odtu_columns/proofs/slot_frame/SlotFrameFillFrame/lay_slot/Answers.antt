use Rattle.std.proofs.Common.{subst}
use Rattle.otn_base.specs.LineSlots.{slots_of}
use Rattle.odtu_columns.specs.BySlots.{frame_by_slots, message_frame}
use Rattle.odtu_columns.specs.Put.{SlotWasPut}
use Rattle.odtu_columns.proofs.BySlots.{slot_filled, only_slot}
use Rattle.odtu_columns.proofs.MessageFrames.{length-message_frame}
use Rattle.odtu_columns.proofs.slot_frame.SlotFrameFillFrame.lay_slot.Goals as goal

pub returns : goal.returns
returns g c =
    let i = c.self.inside in
    let list = c.args.slots.now.list in
    let one = only_slot list (slots_of c.args.slots.now.kind) c.last.result c.requires.line c.requires.one c.last.ensures.last c.last.ensures.list in
    subst (λ before. SlotWasPut list (g.G.RowGroups.groups c.args.groups.now) before (frame_by_slots (message_frame i.message) c.lay_slot.new.self)) c.self.view_is
    (slot_filled c.last.result list (g.G.RowGroups.groups c.args.groups.now) (message_frame i.message) i.payload c.lay_slot.new.self one.low one.high (length-message_frame i.message) one.is c.lay_slot.ensures.here c.lay_slot.ensures.others)
