-- API: the MSI bytes that came of the slots of a line so far, the last one first, and what changes of them.
use Rattle.std.specs.Prelude.{◌≡◌, ◌==◌, ◌&&◌, ◌<◌, nat_le, ℕ, Bool, true, false, not, List, [], ◌∷◌, Option, Some, None, filter, slice_get}
use Rattle.view_events.specs.declared.said.MsiSaid.{MsiSaid}
use Rattle.view_events.specs.declared.slot_events.SlotSeen.{SlotSeen}
use Rattle.view_events.specs.declared.slot_events.SlotTally.{SlotTally}
use Rattle.view_events.specs.declared.slot_events.TheConstants.{SLOTS}

-- G.709 clause 19.4.1: those that came of one slot
abbrev pub msi_bytes : (slot : ℕ) → List MsiSaid → List MsiSaid
msi_bytes slot past = filter (λ msi. msi.slot == slot) past

-- an MSI byte is told where it is the first of its slot, or another than the last one
abbrev pub is_another : List MsiSaid → (byte : ℕ) → Bool
is_another [] byte = true
is_another (last ∷ past) byte = not (last.byte == byte)

abbrev pub is_msi_event : (past : List MsiSaid) → MsiSaid → Bool
is_msi_event past now = is_another (msi_bytes now.slot past) now.byte

-- an MSI byte that came since a turn, and is not the right one
abbrev pub is_wrong_one : Option MsiSaid → (first right : ℕ) → Bool
is_wrong_one None first right = false
is_wrong_one (Some msi) first right = nat_le first msi.turn && not (msi.byte == right)

-- dMSIM of a slot, as docs/ALARMS.md says it: the last two that came of it since that turn are not the right one
abbrev pub is_wrong_twice : List MsiSaid → (first right : ℕ) → Bool
is_wrong_twice [] first right = false
is_wrong_twice (last ∷ []) first right = false
is_wrong_twice (last ∷ before ∷ past) first right =
    is_wrong_one (Some last) first right && is_wrong_one (Some before) first right

-- the last two
abbrev pub last_two : List MsiSaid → SlotSeen
last_two [] = record { last = None; before = None }
last_two (last ∷ []) = record { last = Some last; before = None }
last_two (last ∷ before ∷ past) = record { last = Some last; before = Some before }

-- the last two of each slot
abbrev pub SlotStands : (past : List MsiSaid) → SlotTally → Type 0
SlotStands past tally = (slot : ℕ) → slot < SLOTS → slice_get tally.slots slot ≡ Some (last_two (msi_bytes slot past))
