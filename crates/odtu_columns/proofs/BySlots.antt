-- The bytes of a frame whose payload is kept by slots.
use Rattle.std.proofs.Common.{◌≡◌, ◌≢◌, ◌⊎◌, inl, inr, ℕ, ◌+◌, ◌-◌, ◌*◌, ◌/◌, ◌%◌, ◌<◌, ◌≤◌, true, false, List, [], ◌∷◌, Some, length, get_or, ap, sym, subst, ◌∙◌, arith}
use Rattle.std.specs.Prelude.{slice_get}
use Rattle.std.proofs.Math.ListN.{get_or-eq_default}
use Rattle.std.proofs.lemmas.Bool.{cond-true, cond-false}
use Rattle.std.proofs.lemmas.Bool.Decides.{nat_tests}
use Rattle.std.proofs.lemmas.List.{ext_get_or}
use Rattle.std.proofs.lemmas.List.FromFn.{length-map-range_with_len, get_or-map-range_with_len}
use Rattle.frame_geometry.specs.Places.{place_of}
use Rattle.otn_base.specs.LineSlots.{IsSlotNumber}
use Rattle.otn_base.specs.SlotList.{IsSlotList}
use Rattle.odtu_columns.specs.BySlots.{is_payload, slot_byte, byte_by_slots, frame_by_slots}
use Rattle.odtu_columns.specs.Steps.BySlots.{IsOutside}
use Rattle.odtu_columns.specs.Message.{message_of}
use Rattle.odtu_columns.specs.Put.{slot_place, RowWasPut, SlotWasPut}
use Rattle.odtu_columns.proofs.LineCycles.{whole_cycles, some_slots, column_inside, cycle_inside}

-- ---- where a place is

pub record InPayload (place : ℕ) : Type 0 where
  pub row : ℕ
  pub x : ℕ
  pub low : 1 ≤ row
  pub high : row ≤ 4
  pub inside : x < 3808
  pub at : place ≡ place_of 4080 row (17 + x)

columns : (place : ℕ) → ((16 ≤ place % 4080) × (place % 4080 < 3824) × (place < 16320)) ⊎ ((place % 4080 < 16) ⊎ (3824 ≤ place % 4080) ⊎ (16320 ≤ place))
columns place = grind arith

pub place_case : (place : ℕ) → InPayload place ⊎ IsOutside place
place_case place = go (columns place)
  where
    go : ((16 ≤ place % 4080) × (place % 4080 < 3824) × (place < 16320)) ⊎ ((place % 4080 < 16) ⊎ (3824 ≤ place % 4080) ⊎ (16320 ≤ place)) → InPayload place ⊎ IsOutside place
    go (inl h) =
        let a = h.0 in
        let b = h.1 in
        let c = h.2 in
        inl (record { row = place / 4080 + 1; x = place % 4080 - 16; low = omega arith; high = omega arith; inside = omega arith; at = omega arith })
    go (inr (inl h)) = inr (λ row x low high inside at. omega arith)
    go (inr (inr (inl h))) = inr (λ row x low high inside at. omega arith)
    go (inr (inr (inr h))) = inr (λ row x low high inside at. omega arith)

-- ---- the bytes

pub length-frame_by_slots : (frame : List ℕ) (payload : List ℕ) → length (frame_by_slots frame payload) ≡ 16320
unfolding frame_by_slots
length-frame_by_slots frame payload = length-map-range_with_len (byte_by_slots frame payload) 0 16320

at_place : (frame : List ℕ) (payload : List ℕ) (place : ℕ) → place < 16320 → get_or (frame_by_slots frame payload) place 0 ≡ byte_by_slots frame payload place
unfolding frame_by_slots
at_place frame payload place h = get_or-map-range_with_len (byte_by_slots frame payload) 0 16320 place place 0 h (omega arith)

payload_test : (place x : ℕ) → place % 4080 ≡ 16 + x → x < 3808 → is_payload place ≡ true
payload_test place x e h = grind (arith, nat_tests)

other_test : (place : ℕ) → (place % 4080 < 16) ⊎ (3824 ≤ place % 4080) → is_payload place ≡ false
other_test place h = grind (arith, nat_tests)

byte_here : (frame : List ℕ) (payload : List ℕ) (place r x : ℕ) → place / 4080 ≡ r → place % 4080 ≡ 16 + x → x < 3808 → byte_by_slots frame payload place ≡ slot_byte payload r x
unfolding byte_by_slots
byte_here frame payload place r x line column h =
    cond-true (is_payload place) (slot_byte payload (place / 4080) (place % 4080 - 16)) (get_or frame place 0) (payload_test place x column h)
    ∙ ap (λ k. slot_byte payload k (place % 4080 - 16)) line
    ∙ ap (λ k. slot_byte payload r k) (let e : place % 4080 - 16 ≡ x = omega arith in e)

byte_other : (frame : List ℕ) (payload : List ℕ) (place : ℕ) → (place % 4080 < 16) ⊎ (3824 ≤ place % 4080) → byte_by_slots frame payload place ≡ get_or frame place 0
unfolding byte_by_slots
byte_other frame payload place h =
    cond-false (is_payload place) (slot_byte payload (place / 4080) (place % 4080 - 16)) (get_or frame place 0) (other_test place h)

-- a byte of the payload of a row
pub payload_at : (frame : List ℕ) (payload : List ℕ) (row x : ℕ) → 1 ≤ row → row ≤ 4 → x < 3808
    → get_or (frame_by_slots frame payload) (place_of 4080 row (17 + x)) 0 ≡ slot_byte payload (row - 1) x
payload_at frame payload row x low high h =
    let place = place_of 4080 row (17 + x) in
    let line : place / 4080 ≡ row - 1 = omega arith in
    let column : place % 4080 ≡ 16 + x = omega arith in
    at_place frame payload place (omega arith) ∙ byte_here frame payload place (row - 1) x line column h

-- any other byte
pub other_at : (frame : List ℕ) (payload : List ℕ) (place : ℕ) → length frame ≡ 16320 → IsOutside place → get_or (frame_by_slots frame payload) place 0 ≡ get_or frame place 0
other_at frame payload place size out = go (columns place)
  where
    order : (place : ℕ) → (place < 16320) ⊎ (16320 ≤ place)
    order place = grind arith

    near : (place % 4080 < 16) ⊎ (3824 ≤ place % 4080) → (place < 16320) ⊎ (16320 ≤ place) → get_or (frame_by_slots frame payload) place 0 ≡ get_or frame place 0
    near h (inl inside) = at_place frame payload place inside ∙ byte_other frame payload place h
    near h (inr past) =
        get_or-eq_default (frame_by_slots frame payload) 0 (subst (λ k. k ≤ place) (sym (length-frame_by_slots frame payload)) past)
        ∙ sym (get_or-eq_default frame 0 (subst (λ k. k ≤ place) (sym size) past))

    go : ((16 ≤ place % 4080) × (place % 4080 < 3824) × (place < 16320)) ⊎ ((place % 4080 < 16) ⊎ (3824 ≤ place % 4080) ⊎ (16320 ≤ place)) → get_or (frame_by_slots frame payload) place 0 ≡ get_or frame place 0
    go (inl h) =
        let a = h.0 in
        let b = h.1 in
        let c = h.2 in
        absurd (out (place / 4080 + 1) (place % 4080 - 16) (omega arith) (omega arith) (omega arith) (omega arith))
    go (inr (inr (inr h))) =
        get_or-eq_default (frame_by_slots frame payload) 0 (subst (λ k. k ≤ place) (sym (length-frame_by_slots frame payload)) h)
        ∙ sym (get_or-eq_default frame 0 (subst (λ k. k ≤ place) (sym size) h))
    go (inr (inl h)) = near (inl h) (order place)
    go (inr (inr (inl h))) = near (inr h) (order place)

-- a frame is this one if each of its bytes is
pub is_frame : (frame now : List ℕ) (payload : List ℕ) → length frame ≡ 16320 → length now ≡ 16320
    → ((row x : ℕ) → 1 ≤ row → row ≤ 4 → x < 3808 → get_or now (place_of 4080 row (17 + x)) 0 ≡ slot_byte payload (row - 1) x)
    → ((place : ℕ) → IsOutside place → get_or now place 0 ≡ get_or frame place 0)
    → now ≡ frame_by_slots frame payload
is_frame frame now payload size long joined kept = ext_get_or 0 now (frame_by_slots frame payload) (long ∙ sym (length-frame_by_slots frame payload)) (λ place h. go place (place_case place))
  where
    go : (place : ℕ) → InPayload place ⊎ IsOutside place → get_or now place 0 ≡ get_or (frame_by_slots frame payload) place 0
    go place (inl p) =
        ap (λ k. get_or now k 0) p.at
        ∙ joined p.row p.x p.low p.high p.inside
        ∙ sym (payload_at frame payload p.row p.x p.low p.high p.inside)
        ∙ sym (ap (λ k. get_or (frame_by_slots frame payload) k 0) p.at)
    go place (inr out) = kept place out ∙ sym (other_at frame payload place size out)

-- bytes that are all 0
pub blank_frame : (frame : List ℕ) (payload : List ℕ) → length frame ≡ 16320 → ((place : ℕ) → get_or frame place 0 ≡ 0)
    → ((r x : ℕ) → r < 4 → x < 3808 → slot_byte payload r x ≡ 0)
    → (place : ℕ) → get_or (frame_by_slots frame payload) place 0 ≡ 0
blank_frame frame payload size zero_at joined place = go (place_case place)
  where
    go : InPayload place ⊎ IsOutside place → get_or (frame_by_slots frame payload) place 0 ≡ 0
    go (inl p) =
        let low = p.low in
        let high = p.high in
        ap (λ k. get_or (frame_by_slots frame payload) k 0) p.at
        ∙ payload_at frame payload p.row p.x p.low p.high p.inside
        ∙ joined (p.row - 1) p.x (omega arith) p.inside
    go (inr out) = other_at frame payload place size out ∙ zero_at place

-- ---- the bytes that are in no payload column

-- where they alone changed, a byte changed only as theirs did
pub rest_kept : (frame now : List ℕ) (payload : List ℕ) (place : ℕ) → length frame ≡ 16320 → length now ≡ 16320 → get_or now place 0 ≡ get_or frame place 0
    → get_or (frame_by_slots now payload) place 0 ≡ get_or (frame_by_slots frame payload) place 0
rest_kept frame now payload place size long same = go (place_case place)
  where
    go : InPayload place ⊎ IsOutside place → get_or (frame_by_slots now payload) place 0 ≡ get_or (frame_by_slots frame payload) place 0
    go (inl p) =
        ap (λ k. get_or (frame_by_slots now payload) k 0) p.at
        ∙ payload_at now payload p.row p.x p.low p.high p.inside
        ∙ sym (payload_at frame payload p.row p.x p.low p.high p.inside)
        ∙ sym (ap (λ k. get_or (frame_by_slots frame payload) k 0) p.at)
    go (inr out) = other_at now payload place long out ∙ same ∙ sym (other_at frame payload place size out)

pub message_at : (frame : List ℕ) (payload : List ℕ) → length frame ≡ 16320 → message_of (frame_by_slots frame payload) ≡ message_of frame
message_at frame payload size =
    let a = other_at frame payload 15 size (λ row x low high h e. omega arith) in
    let b = other_at frame payload 4095 size (λ row x low high h e. omega arith) in
    let c = other_at frame payload 8175 size (λ row x low high h e. omega arith) in
    let d = other_at frame payload 14 size (λ row x low high h e. omega arith) in
    let e = other_at frame payload 4094 size (λ row x low high h e. omega arith) in
    let f = other_at frame payload 8174 size (λ row x low high h e. omega arith) in
    cc

-- ---- a row that was put

row_case : (row r : ℕ) → (row ≡ r) ⊎ (row ≢ r)
row_case row r = grind arith

pub row_filled : (line : ℕ) (slots bytes frame old new : List ℕ) (row : ℕ) → IsSlotNumber line → 1 ≤ row → row ≤ 4 → IsSlotList line slots → length frame ≡ 16320
    → ((cycle i : ℕ) → cycle < 3808 / line → i < length slots → slot_byte new (row - 1) (line * cycle + (get_or slots i 0 - 1)) ≡ get_or bytes (length slots * cycle + i) 0)
    → ((x : ℕ) → x < 3808 → ((i : ℕ) → i < length slots → x % line + 1 ≢ get_or slots i 0) → slot_byte new (row - 1) x ≡ slot_byte old (row - 1) x)
    → ((other x : ℕ) → other < 4 → other ≢ row - 1 → x < 3808 → slot_byte new other x ≡ slot_byte old other x)
    → RowWasPut line slots row bytes (frame_by_slots frame old) (frame_by_slots frame new)
row_filled line slots bytes frame old new row number low high list size put kept others = record {
  put = λ cycle i l h.
      let first = list.low i h in
      let last = list.high i h in
      let inside = column_inside line (3808 / line) cycle (get_or slots i 0 - 1) (whole_cycles line number) l (omega arith) in
      ap (λ k. get_or (frame_by_slots frame new) k 0) (let e : slot_place line slots row cycle i ≡ place_of 4080 row (17 + (line * cycle + (get_or slots i 0 - 1))) = omega arith in e)
      ∙ payload_at frame new row (line * cycle + (get_or slots i 0 - 1)) low high inside
      ∙ put cycle i l h;
  kept = λ place none. go place none (place_case place);
}
  where
    column : (place i j : ℕ) → place ≡ place_of 4080 row (17 + i) → j < length slots → i % line + 1 ≡ get_or slots j 0 → place ≡ slot_place line slots row (i / line) j
    column place i j at h e =
        let some = some_slots line number in
        let whole : line * (i / line) + i % line ≡ i = omega arith in
        omega arith

    go : (place : ℕ) → ((cycle i : ℕ) → cycle < 3808 / line → i < length slots → place ≡ slot_place line slots row cycle i → ⊥) → InPayload place ⊎ IsOutside place
        → get_or (frame_by_slots frame new) place 0 ≡ get_or (frame_by_slots frame old) place 0
    go place none (inr out) = other_at frame new place size out ∙ sym (other_at frame old place size out)
    go place none (inl p) =
        ap (λ k. get_or (frame_by_slots frame new) k 0) p.at
        ∙ payload_at frame new p.row p.x p.low p.high p.inside
        ∙ same (row_case p.row row)
        ∙ sym (payload_at frame old p.row p.x p.low p.high p.inside)
        ∙ sym (ap (λ k. get_or (frame_by_slots frame old) k 0) p.at)
      where
        same : (p.row ≡ row) ⊎ (p.row ≢ row) → slot_byte new (p.row - 1) p.x ≡ slot_byte old (p.row - 1) p.x
        same (inl e) =
            ap (λ r. slot_byte new (r - 1) p.x) e
            ∙ kept p.x p.inside (λ j h f. none (p.x / line) j (cycle_inside line (3808 / line) p.x (some_slots line number) (whole_cycles line number) p.inside) h
            (column place p.x j (p.at ∙ ap (λ r. place_of 4080 r (17 + p.x)) e) h f))
            ∙ sym (ap (λ r. slot_byte old (r - 1) p.x) e)
        same (inr other) =
            let l = p.low in
            let g = p.high in
            others (p.row - 1) p.x (omega arith) (λ e. other (omega arith)) p.inside

-- ---- a slot that was put

column_case : (x k : ℕ) → 1 ≤ k → (x % 8 + 1 ≡ k) ⊎ ((x % 8 < k - 1) ⊎ (k ≤ x % 8))
column_case x k low = grind arith

pub slot_filled : (k : ℕ) (slots bytes frame old new : List ℕ) → 1 ≤ k → k ≤ 8 → length frame ≡ 16320 → get_or slots 0 0 ≡ k
    → ((j : ℕ) → j < 1904 → get_or new (1904 * (k - 1) + j) 0 ≡ get_or bytes j 0)
    → ((n : ℕ) → (n < 1904 * (k - 1)) ⊎ (1904 * (k - 1) + 1904 ≤ n) → get_or new n 0 ≡ get_or old n 0)
    → SlotWasPut slots bytes (frame_by_slots frame old) (frame_by_slots frame new)
slot_filled k slots bytes frame old new low high size is here others = record {
  put = λ row cycle first last l.
      let x = 8 * cycle + (k - 1) in
      ap (λ n. get_or (frame_by_slots frame new) n 0) (let e : slot_place 8 slots row cycle 0 ≡ place_of 4080 row (17 + x) = omega arith in e)
      ∙ payload_at frame new row x first last (omega arith)
      ∙ ap (λ n. get_or new n 0) (let e : 1904 * (x % 8) + 476 * (row - 1) + x / 8 ≡ 1904 * (k - 1) + (476 * (row - 1) + cycle) = omega arith in e)
      ∙ here (476 * (row - 1) + cycle) (omega arith);
  kept = λ place none. go place none (place_case place);
}
  where
    go : (place : ℕ) → ((row cycle : ℕ) → 1 ≤ row → row ≤ 4 → cycle < 476 → place ≡ slot_place 8 slots row cycle 0 → ⊥) → InPayload place ⊎ IsOutside place
        → get_or (frame_by_slots frame new) place 0 ≡ get_or (frame_by_slots frame old) place 0
    go place none (inr out) = other_at frame new place size out ∙ sym (other_at frame old place size out)
    go place none (inl p) =
        ap (λ n. get_or (frame_by_slots frame new) n 0) p.at
        ∙ payload_at frame new p.row p.x p.low p.high p.inside
        ∙ same (column_case p.x k low)
        ∙ sym (payload_at frame old p.row p.x p.low p.high p.inside)
        ∙ sym (ap (λ n. get_or (frame_by_slots frame old) n 0) p.at)
      where
        same : (p.x % 8 + 1 ≡ k) ⊎ ((p.x % 8 < k - 1) ⊎ (k ≤ p.x % 8)) → slot_byte new (p.row - 1) p.x ≡ slot_byte old (p.row - 1) p.x
        same (inl e) =
            let a = p.at in
            let inside = p.inside in
            absurd (none p.row (p.x / 8) p.low p.high (omega arith) (omega arith))
        same (inr (inl l)) =
            let first = p.low in
            let last = p.high in
            let inside = p.inside in
            others (1904 * (p.x % 8) + 476 * (p.row - 1) + p.x / 8) (inl (omega arith))
        same (inr (inr g)) = others (1904 * (p.x % 8) + 476 * (p.row - 1) + p.x / 8) (inr (omega arith))

-- the only slot of some
pub record OnlySlot (slots : List ℕ) (k : ℕ) : Type 0 where
  pub low : 1 ≤ k
  pub high : k ≤ 8
  pub is : get_or slots 0 0 ≡ k

pub only_slot : (slots : List ℕ) (line k : ℕ) → line ≡ 8 → length slots ≡ 1 → slice_get slots (length slots - 1) ≡ Some k → IsSlotList line slots → OnlySlot slots k
only_slot slots line k eight one last list =
    let zeroth : slice_get slots 0 ≡ Some k = subst (λ n. slice_get slots (n - 1) ≡ Some k) one last in
    let is : get_or slots 0 0 ≡ k = some_is slots zeroth in
    let low = list.low 0 (omega arith) in
    let high = list.high 0 (omega arith) in
    record { low = omega (arith, is, low); high = omega (arith, is, high, eight); is = is }
  where
    some_is : (xs : List ℕ) → slice_get xs 0 ≡ Some k → get_or xs 0 0 ≡ k
    some_is [] e = cc
    some_is (x ∷ xs) e = cc
