use Rattle.std.proofs.Common.{◌∙◌, ap, rules}
use Rattle.odtu_columns.specs.BySlots.{frame_by_slots, message_frame}
use Rattle.odtu_columns.proofs.JoinRows.{frame_joined, rows_parity}
use Rattle.odtu_columns.proofs.MessageFrames.{length-message_frame, put_alone}
use Rattle.odtu_columns.proofs.slot_frame.SlotFrame.join_into.Goals as goal

pub returns-clause-joined : goal.returns-clause-joined
returns-clause-joined c =
    let i = c.self.inside in
    let clear = c.clear_beside_payload.new.frame in
    let f0 = c.put_message.new.frame in
    let put = c.put_message.ensures in
    let one = c.join_row-one in
    let two = c.join_row-two in
    let three = c.join_row-three in
    let four = c.join_row-four in
    frame_joined (message_frame i.message) i.payload one.new.slots two.new.slots three.new.slots f0 one.new.frame two.new.frame three.new.frame four.new.frame (length-message_frame i.message)
    (put_alone clear f0 i.message (search rules) c.clear_beside_payload.ensures put.message put.kept)
    one.ensures.joined two.ensures.joined three.ensures.joined four.ensures.joined one.ensures.kept two.ensures.kept three.ensures.kept
    ∙ c.self.view_is

pub returns-clause-kept : goal.returns-clause-kept
returns-clause-kept c =
    let i = c.self.inside in
    ap (frame_by_slots (message_frame i.message)) (c.join_row-four.ensures.kept ∙ c.join_row-three.ensures.kept ∙ c.join_row-two.ensures.kept ∙ c.join_row-one.ensures.kept)
    ∙ c.self.view_is

pub returns-clause-parity : goal.returns-clause-parity
returns-clause-parity c =
    let i = c.self.inside in
    let one = c.join_row-one in
    let two = c.join_row-two in
    let three = c.join_row-three in
    let four = c.join_row-four in
    rows_parity i.payload one.new.slots two.new.slots three.new.slots _ one.new.frame two.new.frame three.new.frame four.new.frame one.result two.result three.result four.result
    one.ensures.joined two.ensures.joined three.ensures.joined four.ensures.joined one.ensures.parity two.ensures.parity three.ensures.parity four.ensures.parity
