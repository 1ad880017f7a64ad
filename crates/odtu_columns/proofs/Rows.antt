-- The bytes of a slot in a row, cycle by cycle.
use Rattle.std.proofs.Common.{◌≡◌, ℕ, suc, ◌+◌, ◌-◌, ◌*◌, ◌<◌, ◌≤◌, List, [], ◌∷◌, length, refl, map, get_or, drop, ap, sym, ◌∙◌, arith}
use Rattle.std.specs.List.{range_with_len, All}
use Rattle.std.proofs.lemmas.List.{ext_get_or, get_or-take, get_or-drop}
use Rattle.std.proofs.lemmas.List.FromFn.{length-map-range_with_len, get_or-map-range_with_len}
use Rattle.std.proofs.lemmas.Simd.{map-map}
use Rattle.frame_geometry.specs.Places.{place_of, payload_row_of}
use Rattle.odtu_columns.specs.Columns.{slot_row_of}
use Rattle.odtu_columns.specs.Groups.{group_at}
use Rattle.odtu_columns.proofs.Cycles.{columns_of-cycles}
use Rattle.odtu_columns.proofs.LineCycles.{column_inside}

-- a byte of the payload of a row
pub payload_byte : (row i : ℕ) (frame : List ℕ) → i < 3808 → get_or (payload_row_of 4080 row frame) i 0 ≡ get_or frame (place_of 4080 row (17 + i)) 0
payload_byte row i frame h =
    get_or-take 3808 (drop (place_of 4080 row 17) frame) i 0 h ∙ get_or-drop (place_of 4080 row 17) frame i 0
    ∙ ap (λ place. get_or frame place 0) (let e : place_of 4080 row 17 + i ≡ place_of 4080 row (17 + i) = omega arith in e)

-- the byte of a slot in a cycle
pub cycle_byte : (line n row cycle slot : ℕ) (frame : List ℕ) → line * n ≡ 3808 → cycle < n → 1 ≤ slot → slot ≤ line
    → get_or (payload_row_of 4080 row frame) (line * cycle + slot - 1) 0 ≡ get_or frame (place_of 4080 row (16 + line * cycle + slot)) 0
cycle_byte line n row cycle slot frame all below low high =
    let inside = column_inside line n cycle (slot - 1) all below (omega arith) in
    payload_byte row (line * cycle + slot - 1) frame (omega arith)
    ∙ ap (λ column. get_or frame (place_of 4080 row column) 0) (let e : 17 + (line * cycle + slot - 1) ≡ 16 + line * cycle + slot = omega arith in e)

-- the bytes of a slot in a row: one in each of its cycles
pub slot_row_of-cycles : (line n slot row : ℕ) (frame : List ℕ) → line * n ≡ 3808 → 1 ≤ slot → slot ≤ line
    → slot_row_of line slot row frame ≡ map (λ cycle. get_or frame (place_of 4080 row (16 + line * cycle + slot)) 0) (range_with_len 0 n)
slot_row_of-cycles line n slot row frame all low high =
    ap (map (λ column. get_or frame (place_of 4080 row column) 0)) (columns_of-cycles line slot n low high all)
    ∙ map-map (λ column. get_or frame (place_of 4080 row column) 0) (λ cycle. 16 + line * cycle + slot) (range_with_len 0 n)

pub slot_row_is : (line n slot row : ℕ) (frame payload into : List ℕ) → line * n ≡ 3808 → 1 ≤ slot → slot ≤ line → payload ≡ payload_row_of 4080 row frame → length into ≡ n
    → ((cycle : ℕ) → cycle < n → get_or into cycle 0 ≡ get_or payload (line * cycle + slot - 1) 0)
    → into ≡ slot_row_of line slot row frame
slot_row_is line n slot row frame payload into all low high same size written =
    let byte : ℕ → ℕ = λ cycle. get_or frame (place_of 4080 row (16 + line * cycle + slot)) 0 in
    let bytes : List ℕ = map byte (range_with_len 0 n) in
    let many : length bytes ≡ n = length-map-range_with_len byte 0 n in
    ext_get_or 0 into bytes (size ∙ sym many) (λ cycle h.
    let below : cycle < n = omega arith in
    written cycle below
    ∙ ap (λ xs. get_or xs (line * cycle + slot - 1) 0) same
    ∙ cycle_byte line n row cycle slot frame all below low high
    ∙ sym (get_or-map-range_with_len byte 0 n cycle cycle 0 below (omega arith)))
    ∙ sym (slot_row_of-cycles line n slot row frame all low high)

-- a group has, of each of the slots, the byte in the slot's own column of the cycle
pub group_at-columns : (line n row cycle : ℕ) (frame slots : List ℕ) → line * n ≡ 3808 → cycle < n → All (λ slot. (1 ≤ slot) × (slot ≤ line)) slots
    → group_at line slots row cycle frame ≡ map (λ slot. get_or (slot_row_of line slot row frame) cycle 0) slots
group_at-columns line n row cycle frame [] all below each = refl
group_at-columns line n row cycle frame (slot ∷ slots) all below each =
    let here = each 0 0 (omega arith) in
    ap (λ byte. byte ∷ group_at line slots row cycle frame)
    (sym (ap (λ bytes. get_or bytes cycle 0) (slot_row_of-cycles line n slot row frame all here.0 here.1)
    ∙ get_or-map-range_with_len (λ cycle. get_or frame (place_of 4080 row (16 + line * cycle + slot)) 0) 0 n cycle cycle 0 below (omega arith)))
    ∙ ap (λ bytes. get_or (slot_row_of line slot row frame) cycle 0 ∷ bytes) (group_at-columns line n row cycle frame slots all below (λ k d h. each (suc k) d (omega arith)))
