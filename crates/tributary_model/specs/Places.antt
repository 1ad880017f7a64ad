-- Believed: the own places of a tributary in a multiframe of its line, and what stands there.
use Rattle.std.specs.Prelude.{◌≡◌, ◌⊎◌, ℕ, ◌+◌, ◌/◌, ◌-◌, ◌≤◌, ◌==◌, max, List, [], ◌∷◌, if◌then◌else◌, Option, Some, None, slice_index, slice_get, map, option_map, length, All}
use Rattle.std.specs.List.{flat_map, range_with_len, Contains}
use Rattle.otn_base.specs.declared.limits.TheConstants.{GROUPS, LAST_PAYLOAD_COLUMN, LINE_COLUMNS, PAYLOAD_COLUMNS}
use Rattle.otn_base.specs.LineSlots.{LineSlots, slots_of}
use Rattle.frame_geometry.specs.Places.{place_of}
use Rattle.odtu_columns.specs.Columns.{slot_of}
use Rattle.odtu_columns.specs.Groups.{group_at}
use Rattle.odtu_columns.specs.Message.{message_of}

-- A tributary of a line: how many slots the line has, its own ones, rising, and its tributary port, from 1.
pub record Tributary : Type 0 where
  pub line_slots : ℕ
  pub slots : List ℕ
  pub port : ℕ

-- G.709 clause 19.1: the tributary of a port on these slots, of a line that has as many slots as its kind
abbrev pub tributary_of : LineSlots → (port : ℕ) → Tributary
tributary_of slots port = record { line_slots = slots_of slots.kind; slots = slots.list; port = port }

-- G.709 clause 11.1: the byte in a row and a column, from 1, of a frame of an OTU2 or OTU3, 4 rows of 4,080 columns
abbrev pub byte_at : List ℕ → (row column : ℕ) → ℕ
byte_at frame row column = slice_index frame (place_of LINE_COLUMNS row column)

-- a frame of a multiframe: its bytes, and the MFAS number that is expected there
pub record Taken : Type 0 where
  pub frame : List ℕ
  pub expected : ℕ

-- the greatest of some slots
abbrev pub greatest : List ℕ → ℕ
greatest [] = 0
greatest (k ∷ slots) = max k (greatest slots)

-- ---- the own places, by row and column of frame n, from 0, of a multiframe

-- G.709 clause 19.1: the payload columns of an own slot, in all four rows
pub record IsOwnPayload (own : Tributary) (row column : ℕ) : Type 0 where
  pub rows : (1 ≤ row) × (row ≤ 4)
  pub columns : (17 ≤ column) × (column ≤ LAST_PAYLOAD_COLUMN)
  pub slot : Contains own.slots (slot_of own.line_slots column)

-- G.709 clause 19.4: columns 15 and 16 of rows 1 to 3 in the frame of the greatest of the slots
pub record IsOwnMessage (own : Tributary) (n row column : ℕ) : Type 0 where
  pub frame : n + 1 ≡ greatest own.slots
  pub rows : (1 ≤ row) × (row ≤ 3)
  pub columns : (15 ≤ column) × (column ≤ 16)

-- G.709 clause 19.4.1: the byte PSI[1 + k] of an own slot k, row 4 of column 15 where the number 1 + k is expected
pub record IsOwnMsi (own : Tributary) (expected row column : ℕ) : Type 0 where
  pub place : (row ≡ 4) × (column ≡ 15)
  pub slot : (k : ℕ) × (Contains own.slots k × (expected ≡ 1 + k))

-- a place of frame n that is the tributary's own: of the payload, of the message, or of the MSI
abbrev pub IsOwn : Tributary → (n expected row column : ℕ) → Type 0
IsOwn own n expected row column = IsOwnPayload own row column ⊎ IsOwnMessage own n row column
    ⊎ IsOwnMsi own expected row column

-- ---- what stands there

-- the groups of a row, its 3,808 payload columns in cycles, and those of a frame, row by row
unfoldable pub row_groups : Tributary → List ℕ → (row : ℕ) → List (List ℕ)
row_groups own frame row = map (λ cycle. group_at own.line_slots own.slots row cycle frame)
    (range_with_len 0 (PAYLOAD_COLUMNS / own.line_slots))

unfoldable pub frame_groups : Tributary → List ℕ → List (List ℕ)
frame_groups own frame = flat_map (row_groups own frame) (1 ∷ 2 ∷ 3 ∷ 4 ∷ [])

-- G.709 clause 19.4: the six bytes JC1 to JC6 of a frame, where there is one
abbrev pub message_in : Option Taken → List ℕ
message_in None = []
message_in (Some t) = message_of t.frame

-- the MSI byte of a frame with its slot, where that is one of these, and where it is an own one
abbrev pub msi_at : (slots : List ℕ) → (expected : ℕ) → (frame : List ℕ) → List (ℕ × ℕ)
msi_at slots expected frame = flat_map (λ k. if expected == 1 + k then (k, byte_at frame 4 15) ∷ [] else []) slots

abbrev pub msi_in : Tributary → Taken → List (ℕ × ℕ)
msi_in own t = msi_at own.slots t.expected t.frame

-- The view of a turn with a multiframe, which has as many frames as the line has slots: its groups, the first being
-- group 1, the message, and the MSI bytes that came, each with its slot.
pub record View : Type 0 where
  pub groups : List (List ℕ)
  pub message : List ℕ
  pub msi : List (ℕ × ℕ)

-- the view of a tributary in a multiframe's frames, and in a turn: None without a multiframe, so that no byte counts
unfoldable pub view_of : Tributary → List Taken → View
view_of own frames = record {
  groups = flat_map (λ t. frame_groups own t.frame) frames;
  message = message_in (slice_get frames (greatest own.slots - 1));
  msi = flat_map (msi_in own) frames;
}

abbrev pub turn_view : Tributary → Option (List Taken) → Option View
turn_view own turn = option_map (view_of own) turn

-- a view as a whole multiframe gives it: all 15,232 groups, each with a byte for each of m slots
pub record IsWhole (m : ℕ) (view : View) : Type 0 where
  pub many : length view.groups ≡ GROUPS
  pub each : All (λ g. length g ≡ m) view.groups

-- So is a turn, if it has a multiframe. One that has none shows nothing and meets this too: whole is of the groups
-- here, not of the turn.
abbrev pub IsWholeTurn : (m : ℕ) → Option View → Type 0
IsWholeTurn m None = Unit {0}
IsWholeTurn m (Some view) = IsWhole m view

-- so is each turn of a past
abbrev pub AreWholeTurns : (m : ℕ) → List (Option View) → Type 0
AreWholeTurns m [] = Unit {0}
AreWholeTurns m (view ∷ past) = IsWholeTurn m view × AreWholeTurns m past
