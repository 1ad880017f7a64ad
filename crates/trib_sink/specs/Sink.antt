-- API: a sink after some turns, and within one.
use Rattle.std.specs.Prelude.{◌≡◌, ℕ, ◌*◌, ◌-◌, ◌≤◌, List, Bool, if◌then◌else◌, Option, Some, None, length, slice_get}
use Rattle.std.specs.List.{flat_map}
use Rattle.otn_base.specs.LineSlots.{LineSlots, slots_of}
use Rattle.otn_base.specs.SlotList.{IsSlotList}
use Rattle.msi_table.specs.Marks.{Watch}
use Rattle.tributary_model.specs.Places.{Tributary, tributary_of, Taken, View, greatest, frame_groups, message_in, msi_in, turn_view, AreWholeTurns}
use Rattle.tributary_model.specs.Stretches.{msi_read}
use Rattle.tributary_model.specs.Emission.{data_bytes}
use Rattle.tributary_model.specs.Machine.{cm_of, machine_after}
use Rattle.trib_sink.specs.Following.{Following, Keeps, IsAt}
use Rattle.trib_sink.specs.Rows.{row_cycles}
use Rattle.trib_sink.specs.Watching.{Watched, AreOfSlots}

-- what is seen of a sink: its slots and port, how it follows them, the watches over MSI bytes, and how many frames of
-- this turn it has taken, with their message and MSI bytes
pub record Sink : Type 0 where
  pub slots : LineSlots
  pub port : ℕ
  pub following : Following
  pub watches : List Watch
  pub taken : ℕ
  pub message : List ℕ
  pub msi : List (ℕ × ℕ)

-- what holds of every sink: its slots rise, its port is one of its line, and it has taken no more frames than a
-- multiframe of the line has, with all groups of each
pub record IsSink (s : Sink) : Type 0 where
  pub list : IsSlotList (slots_of s.slots.kind) s.slots.list
  pub port_low : 1 ≤ s.port
  pub port_high : s.port ≤ slots_of s.slots.kind
  pub count : s.following.extraction.slots ≡ length s.slots.list
  pub taken_high : s.taken ≤ slots_of s.slots.kind
  pub asked : s.following.extraction.asked ≡ 4 * row_cycles s.slots.kind * s.taken
  pub keeps : Keeps s.following.standing s.following.listener
  pub msi_few : length s.msi ≤ s.taken
  pub msi_slots : AreOfSlots s.msi

-- The sink is one of this tributary. These are the views of the turns that ended since it was new or restarted, the
-- last first, and these the frames of the turn after them that it has taken.
pub record StandsAfter (own : Tributary) (past : List (Option View)) (frames : List Taken) (s : Sink) : Type 0 where
  pub own_is : own ≡ tributary_of s.slots s.port
  pub slots : IsSlotList own.line_slots own.slots
  pub whole : AreWholeTurns (length own.slots) past
  pub at : IsAt (machine_after own past) s.following
  pub watched : Watched own.port (λ k. msi_read k past) s.watches
  pub taken : s.taken ≡ length frames
  pub fresh : s.following.extraction.fresh
      ≡ data_bytes (cm_of s.following.standing) (flat_map (λ t. frame_groups own t.frame) frames)
  pub cm : s.following.extraction.cm ≡ cm_of s.following.standing
  pub message : greatest own.slots ≤ length frames → s.message ≡ message_in (slice_get frames (greatest own.slots - 1))
  pub msi : s.msi ≡ flat_map (msi_in own) frames

-- This holds of every tributary, past and frames after which the sink stands (StandsAfter). `new` and `restart` give
-- such ones, and each call takes them to the next.
abbrev pub AfterAnyTurns : Sink → ((own : Tributary) → (past : List (Option View)) → (frames : List Taken) → Type 0)
    → Type 0
AfterAnyTurns sink Holds = (own : Tributary) (past : List (Option View)) (frames : List Taken)
    → StandsAfter own past frames sink → Holds own past frames

-- the view of a turn in which these frames were taken: none where it has no multiframe (whole is false)
abbrev pub ended_view : Tributary → (whole : Bool) → List Taken → Option View
ended_view own whole frames = turn_view own (if whole then Some frames else None)
