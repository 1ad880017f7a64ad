use Rattle.odtu_columns.proofs.FilledSlots.{empty_slots}
use Rattle.odtu_columns.proofs.filled_slots.FilledSlots.new.Goals as goal

pub returns : goal.returns
returns c = empty_slots _
