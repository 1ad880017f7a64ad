-- What was put into a row, read back.
use Rattle.std.proofs.Common.{◌≡◌, ◌≢◌, ℕ, zero, suc, ◌+◌, ◌-◌, ◌*◌, ◌/◌, ◌%◌, ◌<◌, ◌≤◌, List, [], ◌∷◌, ◌++◌, length, map, get_or, take, drop, refl, ap, sym, ◌∙◌, arith, append-nil, take-add}
use Rattle.std.specs.List.{range_with_len, flat_map}
use Rattle.std.proofs.lemmas.List.{length-map, length-drop, length-take-le, get_or-map, get_or-take, get_or-drop, ext_get_or, take_all}
use Rattle.std.proofs.lemmas.List.Concat.{flat_map-append}
use Rattle.otn_base.specs.LineSlots.{IsSlotNumber}
use Rattle.otn_base.specs.SlotList.{IsSlotList}
use Rattle.frame_geometry.specs.Places.{place_of, payload_row_of}
use Rattle.odtu_columns.specs.Columns.{slot_row_of}
use Rattle.odtu_columns.specs.Groups.{group_at, row_groups_of}
use Rattle.odtu_columns.specs.Put.{RowWasPut}
use Rattle.odtu_columns.proofs.Cycles.{range-append}
use Rattle.odtu_columns.proofs.LineCycles.{whole_cycles}
use Rattle.odtu_columns.proofs.Rows.{cycle_byte, slot_row_is}
use Rattle.odtu_columns.proofs.RunGroups.{steps}

-- a group that was put
group_back : (line : ℕ) (slots bytes before now : List ℕ) (row cycle : ℕ) → RowWasPut line slots row bytes before now → length bytes ≡ length slots * (3808 / line) → cycle < 3808 / line
    → group_at line slots row cycle now ≡ take (length slots) (drop (length slots * cycle) bytes)
group_back line slots bytes before now row cycle was size below =
    let m = length slots in
    let byte : ℕ → ℕ = λ slot. get_or now (place_of 4080 row (16 + line * cycle + slot)) 0 in
    let wide = steps m cycle (3808 / line) below in
    let left = length-drop (m * cycle) bytes in
    let many : length (map byte slots) ≡ m = length-map slots byte in
    let wanted : length (take m (drop (m * cycle) bytes)) ≡ m = length-take-le m (drop (m * cycle) bytes) (omega arith) in
    ext_get_or 0 (map byte slots) (take m (drop (m * cycle) bytes)) (many ∙ sym wanted) (λ i h.
    let inside : i < m = omega arith in
    get_or-map byte slots i 0 0 inside
    ∙ was.put cycle i below inside
    ∙ sym (get_or-take m (drop (m * cycle) bytes) i 0 inside ∙ get_or-drop (m * cycle) bytes i 0))

groups_back : (line : ℕ) (slots bytes before now : List ℕ) (row n : ℕ) → RowWasPut line slots row bytes before now → length bytes ≡ length slots * (3808 / line) → n ≤ 3808 / line
    → flat_map (λ cycle. group_at line slots row cycle now) (range_with_len 0 n) ≡ take (length slots * n) bytes
groups_back line slots bytes before now row zero was size few = ap (λ k. take k bytes) (let e : 0 ≡ length slots * 0 = omega arith in e)
groups_back line slots bytes before now row (suc n) was size few =
    let m = length slots in
    let group : ℕ → List ℕ = λ cycle. group_at line slots row cycle now in
    ap (λ k. flat_map group (range_with_len 0 k)) (let e : suc n ≡ n + 1 = omega arith in e)
    ∙ ap (flat_map group) (range-append 0 n 1)
    ∙ flat_map-append group (range_with_len 0 n) (range_with_len (0 + n) 1)
    ∙ ap (λ xs. flat_map group (range_with_len 0 n) ++ xs) (append-nil (group (0 + n)) ∙ ap group (let e : 0 + n ≡ n = omega arith in e))
    ∙ ap (λ xs. xs ++ group n) (groups_back line slots bytes before now row n was size (omega arith))
    ∙ ap (λ xs. take (m * n) bytes ++ xs) (group_back line slots bytes before now row n was size (omega arith))
    ∙ sym (take-add (m * n) m bytes)
    ∙ ap (λ k. take k bytes) (let e : m * n + m ≡ m * suc n = omega arith in e)

pub row_back : (line : ℕ) (slots bytes before now : List ℕ) (row : ℕ) → RowWasPut line slots row bytes before now → length bytes ≡ length slots * (3808 / line) → row_groups_of line slots row now ≡ bytes
unfolding row_groups_of
row_back line slots bytes before now row was size =
    groups_back line slots bytes before now row (3808 / line) was size (omega arith) ∙ take_all (length slots * (3808 / line)) bytes (omega arith)

-- ---- one slot

pub one_slot : (line slot : ℕ) → 1 ≤ slot → slot ≤ line → IsSlotList line (slot ∷ [])
one_slot line slot low high = record {
  taken = omega arith;
  low = λ i h. at i (λ k. 1 ≤ k) low h;
  high = λ i h. at i (λ k. k ≤ line) high h;
  rising = λ k h. absurd (let bad : ⊥ = omega arith in bad);
}
  where
    at : (i : ℕ) (P : ℕ → Type 0) → P slot → i < 1 → P (get_or (slot ∷ []) i 0)
    at zero P p h = p
    at (suc i) P p h = absurd (let bad : ⊥ = omega arith in bad)

-- one slot is a list of one
pub slot_put : (line slot n : ℕ) (bytes new : List ℕ) → 1 ≤ slot → ((j : ℕ) → j < n → get_or new (line * j + slot - 1) 0 ≡ get_or bytes j 0)
    → (cycle i : ℕ) → cycle < n → i < 1 → get_or new (line * cycle + (get_or (slot ∷ []) i 0 - 1)) 0 ≡ get_or bytes (1 * cycle + i) 0
slot_put line slot n bytes new low put cycle zero below h =
    ap (λ k. get_or new k 0) (let e : line * cycle + (slot - 1) ≡ line * cycle + slot - 1 = omega arith in e)
    ∙ put cycle below
    ∙ ap (λ k. get_or bytes k 0) (let e : cycle ≡ 1 * cycle + 0 = omega arith in e)
slot_put line slot n bytes new low put cycle (suc i) below h = absurd (omega arith)

pub slot_kept : (line slot : ℕ) (old new : List ℕ) → ((x : ℕ) → x % line + 1 ≢ slot → get_or new x 0 ≡ get_or old x 0)
    → (x : ℕ) → ((i : ℕ) → i < 1 → x % line + 1 ≢ get_or (slot ∷ []) i 0) → get_or new x 0 ≡ get_or old x 0
slot_kept line slot old new kept x none = kept x (none 0 (omega arith))

pub slot_back : (line slot row : ℕ) (bytes before now : List ℕ) → IsSlotNumber line → 1 ≤ slot → slot ≤ line → RowWasPut line (slot ∷ []) row bytes before now → length bytes ≡ 3808 / line
    → slot_row_of line slot row now ≡ bytes
slot_back line slot row bytes before now number low high was size =
    let all = whole_cycles line number in
    sym (slot_row_is line (3808 / line) slot row now (payload_row_of 4080 row now) bytes all low high refl size (λ cycle below.
    ap (λ k. get_or bytes k 0) (let e : cycle ≡ 1 * cycle + 0 = omega arith in e)
    ∙ sym (was.put cycle 0 below (omega arith))
    ∙ sym (cycle_byte line (3808 / line) row cycle slot now all below low high)))
