-- Steps of `put_rows`, `fill_rows` and others: what private contracts alone cite, beside the definitions of `Rows`.
use Rattle.std.specs.Prelude.{◌≡◌, ℕ, ◌+◌, ◌-◌, ◌*◌, ◌/◌, ◌%◌, ◌<◌, ◌≤◌, List, if◌then◌else◌, length, map, slice_index}
use Rattle.std.specs.List.{range_with_len}
use Rattle.gmp_rule.specs.DataRule.{is_data_at, data_count}
use Rattle.odtu_columns.specs.Put.{slot_place}
use Rattle.otn_base.specs.declared.limits.TheConstants.{GROUPS}
use Rattle.trib_source.specs.Backlog.{BacklogView}
use Rattle.trib_source.specs.Rows.{groups_in_row}

-- How many bytes the data groups have, of m bytes each, among so many more groups behind the first `asked` of a turn in
-- which c groups are data (G.709 Annex D).
abbrev pub data_bytes : (m c asked more : ℕ) → ℕ
data_bytes m c asked more = m * data_count c (asked + more) - m * data_count c asked

-- Byte i of group x, from 0, behind those: a data group takes the next of the bytes that are left, and a stuff group
-- has bytes 0 (G.709 Annex D).
abbrev pub byte_laid : (m c asked : ℕ) → (left : List ℕ) → (x i : ℕ) → ℕ
byte_laid m c asked left x i = if is_data_at c (asked + x + 1) then slice_index left (data_bytes m c asked x + i) else 0

-- the turn's data groups that were not put are there, before the newest turn's bytes
abbrev pub AreEnough : (m c asked : ℕ) → BacklogView → Type 0
AreEnough m c asked backlog = m * c + backlog.newest ≤ length backlog.items + m * data_count c asked

-- The first rows of a frame have these bytes, by group, from 0, and slot, in the columns of the slots, and every other
-- byte is as before (G.709 clause 19.1).
pub record RowsWerePut (line_slots : ℕ) (slots : List ℕ) (byte : (x i : ℕ) → ℕ) (rows : ℕ)
    (before now : List ℕ) : Type 0 where
  pub put : (row cycle i : ℕ) → 1 ≤ row → row ≤ rows → cycle < groups_in_row line_slots → i < length slots
      → slice_index now (slot_place line_slots slots row cycle i)
      ≡ byte (groups_in_row line_slots * (row - 1) + cycle) i
  pub kept : (place : ℕ) → ((row cycle i : ℕ) → 1 ≤ row → row ≤ rows → cycle < groups_in_row line_slots
      → i < length slots → place ≡ slot_place line_slots slots row cycle i → ⊥)
      → slice_index now place ≡ slice_index before place

-- All bytes of so many groups behind those, one group after the other.
unfoldable pub groups_laid : (m c asked : ℕ) → (left : List ℕ) → (cycles : ℕ) → List ℕ
groups_laid m c asked left cycles = map (λ n. byte_laid m c asked left (n / m) (n % m)) (range_with_len 0 (m * cycles))

-- So many bytes are those of the data groups among so many groups of a turn.
pub record CanLay (m c asked long cycles : ℕ) : Type 0 where
  pub some : 1 ≤ m
  pub cm : c ≤ GROUPS
  pub asked_high : asked + cycles ≤ GROUPS
  pub fresh : long ≡ data_bytes m c asked cycles
