-- API: a source after some turns, and within one.
use Rattle.std.specs.Prelude.{◌≡◌, ℕ, ◌+◌, ◌-◌, ◌*◌, ◌/◌, ◌%◌, ◌<◌, ◌≤◌, List, Option, Some, None, length, drop}
use Rattle.std.specs.Option.{ForSome}
use Rattle.std.specs.List.{concat}
use Rattle.otn_base.specs.declared.limits.TheConstants.{GROUPS, ROWS}
use Rattle.otn_base.specs.LineSlots.{LineSlots, slots_of}
use Rattle.otn_base.specs.SlotList.{IsSlotList}
use Rattle.gmp_rule.specs.DataRule.{data_count}
use Rattle.tributary_model.specs.Places.{Tributary, tributary_of}
use Rattle.tributary_model.specs.Carries.{sent, cm_before, former_of}
use Rattle.tributary_model.specs.Puts.{lengths_of, message_put}
use Rattle.trib_source.specs.Backlog.{BacklogView}
use Rattle.trib_source.specs.Rows.{groups_in_row}

-- what is seen of a source: its slots; the number that the message of the last turn says, where there was a turn; by
-- which number the groups of that turn are data, and how many of them were put; the bytes that are left; the bytes over
-- of the last turn, and its message; and how many of its frames were filled
pub record Source : Type 0 where
  pub slots : LineSlots
  pub said : Option ℕ
  pub cm : ℕ
  pub asked : ℕ
  pub left : List ℕ
  pub cnd : ℕ
  pub message : List ℕ
  pub filled : ℕ

-- how many slots it has, M of GMP (G.709 Annex D)
abbrev pub slots_in : Source → ℕ
slots_in s = length s.slots.list

-- the number that was said, and 0 before any
abbrev pub said_cm : Option ℕ → ℕ
said_cm None = 0
said_cm (Some n) = n

-- What is left of the bytes once so many groups of a turn were put, where its data groups, c of them, take the bytes
-- from the whole group q of m bytes on.
abbrev pub AreLeft : (m c q : ℕ) → (bytes : List ℕ) → (asked : ℕ) → (left : List ℕ) → Type 0
AreLeft m c q bytes asked left = left ≡ drop (m * (q + data_count c asked)) bytes

-- the groups of so many frames, each of four rows, on a line of so many slots (G.709 clause 19.1)
abbrev pub groups_in_frames : (line_slots frames : ℕ) → ℕ
groups_in_frames line_slots frames = ROWS * groups_in_row line_slots * frames

-- What holds of every source: its slots rise; there is room for the bytes of as many, and of those that the next turn
-- keeps fewer than a group's stand before the newest turn's; there is room for so many bytes in which rows are laid
-- out; and the number of its groups is kept.
pub record IsSource (s : Source) (backlog : BacklogView) (scratch kept : ℕ) : Type 0 where
  pub list : IsSlotList (slots_of s.slots.kind) s.slots.list
  pub said_high : ForSome s.said (λ n. n ≤ GROUPS)
  pub cm_high : s.cm ≤ GROUPS
  pub filled_high : s.filled ≤ slots_of s.slots.kind
  pub asked_is : s.asked ≡ groups_in_frames (slots_of s.slots.kind) s.filled
  pub cnd_high : s.cnd < slots_in s
  pub left_is : length s.left + slots_in s * data_count s.cm s.asked
      ≡ slots_in s * s.cm + (slots_in s * said_cm s.said + s.cnd)
  pub slots_are : backlog.slots ≡ slots_in s
  pub newest_low : backlog.newest ≤ slots_in s * said_cm s.said + s.cnd
  pub newest_high : slots_in s * said_cm s.said + s.cnd < backlog.newest + slots_in s
  pub scratch_is : scratch ≡ 2 * (slots_in s * (ROWS * groups_in_row (slots_of s.slots.kind)))
  pub kept_is : kept ≡ s.cm

-- The source is one of this tributary, whatever its port is. These are the bytes of its turns since it was new or
-- restarted, and so many frames of the last of them were filled.
pub record StandsAfter (own : Tributary) (turns : List (List ℕ)) (filled : ℕ) (s : Source) : Type 0 where
  pub own_is : own ≡ tributary_of s.slots own.port
  pub slots : IsSlotList own.line_slots own.slots
  pub filled_is : s.filled ≡ filled
  pub said : s.said ≡ former_of (length own.slots) (lengths_of turns) (length turns)
  pub cm : s.cm ≡ cm_before (length own.slots) (lengths_of turns) (length turns - 1)
  pub cnd : s.cnd ≡ sent (lengths_of turns) (length turns) % length own.slots
  pub left : AreLeft (length own.slots) s.cm (sent (lengths_of turns) (length turns - 1 - 1) / length own.slots)
      (concat turns) s.asked s.left
  pub message : 0 < length turns → s.message ≡ message_put (length own.slots) turns (length turns - 1)
