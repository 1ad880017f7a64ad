use Rattle.std.proofs.Common.{◌∙◌, ap, sym, get_or, rules}
use Rattle.odtu_columns.specs.BySlots.{message_frame}
use Rattle.odtu_columns.proofs.BySlots.{message_at, rest_kept}
use Rattle.odtu_columns.proofs.MessageFrames.{length-message_frame, message_of-message_frame, other_zero}
use Rattle.odtu_columns.proofs.slot_frame.SlotFrameFillFrame.fill_message.Goals as goal

pub returns-clause-message : goal.returns-clause-message
returns-clause-message c =
    let i = c.self.inside in
    message_at (message_frame c.args.message) i.payload (length-message_frame c.args.message)
    ∙ message_of-message_frame c.args.message (search rules)

pub returns-clause-kept : goal.returns-clause-kept
returns-clause-kept c = λ place none.
    let i = c.self.inside in
    let old = message_frame i.message in
    let new = message_frame c.args.message in
    rest_kept old new i.payload place (length-message_frame i.message) (length-message_frame c.args.message)
    (other_zero c.args.message place none ∙ sym (other_zero i.message place none))
    ∙ ap (λ xs. get_or xs place 0) c.self.view_is
