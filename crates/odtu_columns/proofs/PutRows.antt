-- Bytes written into the payload of a row, as bytes of the frame.
use Rattle.std.proofs.Common.{◌≡◌, ◌≢◌, ◌⊎◌, inl, inr, ℕ, ◌+◌, ◌-◌, ◌*◌, ◌/◌, ◌%◌, ◌<◌, ◌≤◌, List, ◌++◌, length, get_or, take, drop, ap, ◌∙◌, arith}
use Rattle.std.proofs.lemmas.List.{length-take-le, get_or-take, get_or-drop, get_or_append_left, get_or-append_right}
use Rattle.otn_base.specs.LineSlots.{IsSlotNumber}
use Rattle.otn_base.specs.SlotList.{IsSlotList}
use Rattle.frame_geometry.specs.Places.{place_of, payload_row_of, with_payload_row}
use Rattle.odtu_columns.specs.Put.{slot_place, RowWasPut}
use Rattle.odtu_columns.proofs.LineCycles.{whole_cycles, some_slots, column_inside, cycle_inside}
use Rattle.odtu_columns.proofs.Rows.{payload_byte}

-- a byte of the payload of the row
pub written_byte : (row i : ℕ) (frame payload : List ℕ) → 1 ≤ row → row ≤ 4 → length frame ≡ 16320 → length payload ≡ 3808 → i < 3808
    → get_or (with_payload_row 4080 row frame payload) (place_of 4080 row 17 + i) 0 ≡ get_or payload i 0
written_byte row i frame payload low high size long h =
    let start = place_of 4080 row 17 in
    let rest = drop (start + length payload) frame in
    let front : length (take start frame) ≡ start = length-take-le start frame (omega arith) in
    get_or-append_right (take start frame) (payload ++ rest) start (start + i) 0 front (omega arith)
    ∙ ap (λ k. get_or (payload ++ rest) k 0) (let e : start + i - start ≡ i = omega arith in e)
    ∙ get_or_append_left payload rest 0 i (omega arith)

-- any other byte
pub kept_byte : (row place : ℕ) (frame payload : List ℕ) → 1 ≤ row → row ≤ 4 → length frame ≡ 16320 → length payload ≡ 3808 → (place < place_of 4080 row 17) ⊎ (place_of 4080 row 17 + 3808 ≤ place)
    → get_or (with_payload_row 4080 row frame payload) place 0 ≡ get_or frame place 0
kept_byte row place frame payload low high size long (inl h) =
    let start = place_of 4080 row 17 in
    let rest = drop (start + length payload) frame in
    let front : length (take start frame) ≡ start = length-take-le start frame (omega arith) in
    get_or_append_left (take start frame) (payload ++ rest) 0 place (omega arith) ∙ get_or-take start frame place 0 h
kept_byte row place frame payload low high size long (inr h) =
    let start = place_of 4080 row 17 in
    let rest = drop (start + length payload) frame in
    let front : length (take start frame) ≡ start = length-take-le start frame (omega arith) in
    get_or-append_right (take start frame) (payload ++ rest) start place 0 front (omega arith)
    ∙ get_or-append_right payload rest 3808 (place - start) 0 long (omega arith)
    ∙ get_or-drop (start + length payload) frame (place - start - 3808) 0
    ∙ ap (λ k. get_or frame k 0) (let e : start + length payload + (place - start - 3808) ≡ place = omega arith in e)

pub where_is : (start place : ℕ) → ((place < start) ⊎ (start + 3808 ≤ place)) ⊎ ((start ≤ place) × (place - start < 3808))
where_is start place = grind arith

pub row_was_put : (line : ℕ) (slots bytes before payload new : List ℕ) (row : ℕ) → IsSlotNumber line → 1 ≤ row → row ≤ 4 → IsSlotList line slots → length before ≡ 16320 → payload ≡ payload_row_of 4080 row before → length new ≡ 3808
    → ((cycle i : ℕ) → cycle < 3808 / line → i < length slots → get_or new (line * cycle + (get_or slots i 0 - 1)) 0 ≡ get_or bytes (length slots * cycle + i) 0)
    → ((n : ℕ) → ((i : ℕ) → i < length slots → n % line + 1 ≢ get_or slots i 0) → get_or new n 0 ≡ get_or payload n 0)
    → RowWasPut line slots row bytes before (with_payload_row 4080 row before new)
row_was_put line slots bytes before payload new row number low high list size is long put kept =
    let start = place_of 4080 row 17 in record {
      put = λ cycle i l h.
          let first = list.low i h in
          let last = list.high i h in
          let inside = column_inside line (3808 / line) cycle (get_or slots i 0 - 1) (whole_cycles line number) l (omega arith) in
          ap (λ k. get_or (with_payload_row 4080 row before new) k 0) (let e : slot_place line slots row cycle i ≡ start + (line * cycle + (get_or slots i 0 - 1)) = omega arith in e)
          ∙ written_byte row (line * cycle + (get_or slots i 0 - 1)) before new low high size long (omega arith)
          ∙ put cycle i l h;
      kept = λ place none. go place none (where_is start place);
    }
  where
    column : (place i j : ℕ) → place ≡ place_of 4080 row 17 + i → j < length slots → i % line + 1 ≡ get_or slots j 0 → place ≡ slot_place line slots row (i / line) j
    column place i j at h e =
        let some = some_slots line number in
        let whole : line * (i / line) + i % line ≡ i = omega arith in
        omega arith

    go : (place : ℕ) → ((cycle i : ℕ) → cycle < 3808 / line → i < length slots → place ≡ slot_place line slots row cycle i → ⊥)
        → ((place < place_of 4080 row 17) ⊎ (place_of 4080 row 17 + 3808 ≤ place)) ⊎ ((place_of 4080 row 17 ≤ place) × (place - place_of 4080 row 17 < 3808))
        → get_or (with_payload_row 4080 row before new) place 0 ≡ get_or before place 0
    go place none (inl out) = kept_byte row place before new low high size long out
    go place none (inr within) =
        let start = place_of 4080 row 17 in
        let i = place - start in
        let at : place ≡ start + i = (let w = within.0 in omega arith) in
        ap (λ k. get_or (with_payload_row 4080 row before new) k 0) at
        ∙ written_byte row i before new low high size long within.1
        ∙ kept i (λ j h e. none (i / line) j (cycle_inside line (3808 / line) i (some_slots line number) (whole_cycles line number) within.1) h (column place i j at h e))
        ∙ ap (λ xs. get_or xs i 0) is
        ∙ payload_byte row i before within.1
        ∙ ap (λ k. get_or before k 0) (let e : place_of 4080 row (17 + i) ≡ place = (let w = within.0 in omega arith) in e)
