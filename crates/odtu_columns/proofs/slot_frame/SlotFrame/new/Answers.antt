use Rattle.odtu_columns.proofs.BySlots.{length-frame_by_slots, blank_frame}
use Rattle.odtu_columns.proofs.MessageFrames.{length-message_frame, all_zero}
use Rattle.odtu_columns.proofs.slot_frame.SlotFrame.new.Goals as goal

pub returns-clause-size : goal.returns-clause-size
returns-clause-size c = length-frame_by_slots _ _

pub returns-clause-zero : goal.returns-clause-zero
returns-clause-zero c = blank_frame _ _ (length-message_frame _) all_zero (λ r x l h. c.in_ok-payload.ensures _)
