use Rattle.std.proofs.Common.{None}
use Rattle.view_events.proofs.Slots.{same_everywhere}
use Rattle.view_events.proofs.slot_events.SlotTally.new.Goals as goal

pub returns : goal.returns
returns c slot less = same_everywhere 33 slot (record { last = None; before = None }) less
