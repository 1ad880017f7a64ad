-- Believed: what the source of a tributary puts into the multiframes of its line. Its turns are the lists of bytes that
-- it took, the first turn since it began first (a sink's past has the last first). Their numbers t count from 0, and
-- A(t) is how many bytes the turns up to t have.
use Rattle.std.specs.Prelude.{◌≡◌, ◌≢◌, ◌⊎◌, ℕ, suc, ◌+◌, ◌*◌, ◌/◌, ◌-◌, ◌≤◌, ◌==◌, List, [], ◌∷◌, ◌++◌, if◌then◌else◌, length, take, drop, map, replicate, slice_index}
use Rattle.std.specs.List.{concat, Contains}
use Rattle.otn_base.specs.declared.limits.TheConstants.{LINE_COLUMNS, PAYLOAD_COLUMNS}
use Rattle.gmp_rule.specs.DataRule.{is_data_at, data_count}
use Rattle.jc_codec.specs.Message.{says}
use Rattle.cnd_codec.specs.Remainder.{says_cnd}
use Rattle.odtu_columns.specs.Columns.{slot_of}
use Rattle.tributary_model.specs.Places.{Tributary, byte_at, greatest, IsOwnPayload, IsOwnMessage}
use Rattle.tributary_model.specs.Carries.{sent, cm_in, cnd_in, cm_before, former_of}

-- how many bytes each of the turns brings
abbrev pub lengths_of : List (List ℕ) → List ℕ
lengths_of turns = map length turns

-- ---- by groups

-- Group j where the number is c and the data groups take the bytes from the whole group q of m bytes on, in order: a
-- data group the m bytes behind those of the data groups before it, a stuff group bytes 0 (G.709 Annex D).
abbrev pub group_from : (m c q : ℕ) → (bytes : List ℕ) → (j : ℕ) → List ℕ
group_from m c q bytes j = if is_data_at c j then take m (drop (m * (q + data_count c (j - 1))) bytes)
    else replicate m 0

-- Group j of turn t: data by C(t - 1), from byte m * (A(t - 2) / m) on.
unfoldable pub group_put : (m : ℕ) → (turns : List (List ℕ)) → (t j : ℕ) → List ℕ
group_put m turns t j = let p = lengths_of turns in
    group_from m (cm_before m p t) (sent p (t - 1) / m) (concat turns) j

-- The message of turn t: C(t) after C(t - 1), or after none in the first turn, and D(t).
unfoldable pub message_put : (m : ℕ) → (turns : List (List ℕ)) → (t : ℕ) → List ℕ
message_put m turns t = let p = lengths_of turns in
    says (former_of m p t) (cm_in m p t) ++ says_cnd (cnd_in m p t)

-- ---- by own place, in frame n, from 0, of the multiframe

-- the place of a slot among some, from 0
abbrev pub place_among : List ℕ → (slot : ℕ) → ℕ
place_among [] slot = 0
place_among (k ∷ slots) slot = if k == slot then 0 else suc (place_among slots slot)

-- The group that has a byte in a payload column: on a line of so many slots a row has 3808 / slots groups, and they are
-- counted from 1 on from row to row and from frame to frame.
abbrev pub group_at_place : (line_slots n row column : ℕ) → ℕ
group_at_place line_slots n row column = let cycles = PAYLOAD_COLUMNS / line_slots in
    cycles * (4 * n + (row - 1)) + (column - 17) / line_slots + 1

-- the byte in a payload column of an own slot: that of the slot in the column's group
abbrev pub payload_put : Tributary → (turns : List (List ℕ)) → (t n row column : ℕ) → ℕ
payload_put own turns t n row column =
    slice_index (group_put (length own.slots) turns t (group_at_place own.line_slots n row column))
    (place_among own.slots (slot_of own.line_slots column))

-- columns 15 and 16 of rows 1 to 3 in the frames of the own slots but the greatest
pub record IsOtherMessage (own : Tributary) (n row column : ℕ) : Type 0 where
  pub frame : Contains own.slots (n + 1)
  pub other : n + 1 ≢ greatest own.slots
  pub rows : (1 ≤ row) × (row ≤ 3)
  pub columns : (15 ≤ column) × (column ≤ 16)

-- A frame has in its own places what the source puts in turn t, JC1 to JC3 in column 16 of rows 1 to 3 and JC4 to JC6
-- in column 15 (G.709 clause 19.4), and 0 in the message bytes of the other slots.
pub record IsPut (own : Tributary) (turns : List (List ℕ)) (t n : ℕ) (frame : List ℕ) : Type 0 where
  pub payload : (row column : ℕ) → IsOwnPayload own row column
      → byte_at frame row column ≡ payload_put own turns t n row column
  pub message : (row column : ℕ) → IsOwnMessage own n row column
      → byte_at frame row column ≡ slice_index (message_put (length own.slots) turns t) (3 * (16 - column) + (row - 1))
  pub others : (row column : ℕ) → IsOtherMessage own n row column → byte_at frame row column ≡ 0

-- the places that a source writes
abbrev pub IsSourcePlace : Tributary → (n row column : ℕ) → Type 0
IsSourcePlace own n row column = IsOwnPayload own row column ⊎ IsOwnMessage own n row column
    ⊎ IsOtherMessage own n row column

-- What the source puts was put into a frame, in which every other byte is as it was.
pub record WasPut (own : Tributary) (turns : List (List ℕ)) (t n : ℕ) (before now : List ℕ) : Type 0 where
  pub put : IsPut own turns t n now
  pub kept : (row column : ℕ) → 1 ≤ row → row ≤ 4 → 1 ≤ column → column ≤ LINE_COLUMNS
      → (IsSourcePlace own n row column → ⊥)
      → byte_at now row column ≡ byte_at before row column
