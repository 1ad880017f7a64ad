use Rattle.std.proofs.Common.{◌≡◌, List, drop}
use Rattle.std.specs.List.{find}
use Rattle.view_events.specs.declared.said.MsiSaid.{MsiSaid}
use Rattle.view_events.specs.SlotEvents.{SlotStands, msi_bytes, is_wrong_twice}
use Rattle.view_events.proofs.slot_events.SlotTally.marked.Given as goal

-- none of the slots so far is marked
abbrev pub invariant-loop-slot : goal.invariant-loop-slot
invariant-loop-slot l = (past : List MsiSaid) → SlotStands past l.self
    → find (λ slot. is_wrong_twice (msi_bytes slot past) l.first l.right) l.slots
    ≡ find (λ slot. is_wrong_twice (msi_bytes slot past) l.first l.right) (drop l.slot-index l.slots)
