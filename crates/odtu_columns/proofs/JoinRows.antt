-- The rows of a frame, joined out of their slots.
use Rattle.std.proofs.Common.{◌≡◌, ◌⊎◌, inl, inr, ℕ, ◌+◌, ◌-◌, ◌<◌, ◌≤◌, List, length, get_or, ap, sym, subst, ◌∙◌, arith}
use Rattle.std.proofs.Math.ListN.{get_or-eq_default}
use Rattle.std.specs.Prelude.{fold, bit_xor}
use Rattle.frame_geometry.specs.PayloadParity.{row_parity_of, payload_parity_of, same_payload_row}
use Rattle.frame_geometry.specs.Places.{place_of, same_place, with_payload_row}
use Rattle.frame_geometry.specs.Loans.{length-with_payload_row}
use Rattle.odtu_columns.specs.BySlots.{slot_byte, frame_by_slots}
use Rattle.odtu_columns.specs.Steps.BySlots.{IsOutside, RowJoined}
use Rattle.odtu_columns.proofs.BySlots.{is_frame}
use Rattle.odtu_columns.proofs.PutRows.{written_byte, kept_byte, where_is}

pub row_joined : (rows frame new : List ℕ) (row : ℕ) → 1 ≤ row → row ≤ 4 → length frame ≡ 16320 → length new ≡ 3808 → ((x : ℕ) → x < 3808 → get_or new x 0 ≡ slot_byte rows (row - 1) x)
    → RowJoined rows row frame (with_payload_row 4080 row frame new)
row_joined rows frame new row low high size long joined = record {
  size = length-with_payload_row 4080 row frame new (omega arith) ∙ size;
  here = λ x h.
      ap (λ k. get_or (with_payload_row 4080 row frame new) k 0) (let e : place_of 4080 row (17 + x) ≡ place_of 4080 row 17 + x = omega arith in e)
      ∙ written_byte row x frame new low high size long h
      ∙ joined x h;
  kept = λ place none. go place none (where_is (place_of 4080 row 17) place);
}
  where
    go : (place : ℕ) → ((x : ℕ) → x < 3808 → place ≡ place_of 4080 row (17 + x) → ⊥)
        → ((place < place_of 4080 row 17) ⊎ (place_of 4080 row 17 + 3808 ≤ place)) ⊎ ((place_of 4080 row 17 ≤ place) × (place - place_of 4080 row 17 < 3808))
        → get_or (with_payload_row 4080 row frame new) place 0 ≡ get_or frame place 0
    go place none (inl out) = kept_byte row place frame new low high size long out
    go place none (inr within) = absurd (none (place - place_of 4080 row 17) within.1 (let w = within.0 in omega arith))

pub row_number : (row : ℕ) → 1 ≤ row → row ≤ 4 → (row ≡ 1) ⊎ ((row ≡ 2) ⊎ ((row ≡ 3) ⊎ (row ≡ 4)))
row_number row low high = grind arith

pub frame_joined : (own s1 s2 s3 s4 f0 f1 f2 f3 f4 : List ℕ) → length own ≡ 16320 → ((place : ℕ) → IsOutside place → get_or f0 place 0 ≡ get_or own place 0)
    → RowJoined s1 1 f0 f1 → RowJoined s2 2 f1 f2 → RowJoined s3 3 f2 f3 → RowJoined s4 4 f3 f4 → s2 ≡ s1 → s3 ≡ s2 → s4 ≡ s3
    → f4 ≡ frame_by_slots own s1
frame_joined own s1 s2 s3 s4 f0 f1 f2 f3 f4 size rest h1 h2 h3 h4 e2 e3 e4 = is_frame own f4 s1 size h4.size (λ row x low high h. joined row x h (row_number row low high)) kept
  where
    kept : (place : ℕ) → IsOutside place → get_or f4 place 0 ≡ get_or own place 0
    kept place out =
        h4.kept place (λ x h e. out 4 x (omega arith) (omega arith) h e)
        ∙ h3.kept place (λ x h e. out 3 x (omega arith) (omega arith) h e)
        ∙ h2.kept place (λ x h e. out 2 x (omega arith) (omega arith) h e)
        ∙ h1.kept place (λ x h e. out 1 x (omega arith) (omega arith) h e)
        ∙ rest place out

    joined : (row x : ℕ) → x < 3808 → (row ≡ 1) ⊎ ((row ≡ 2) ⊎ ((row ≡ 3) ⊎ (row ≡ 4))) → get_or f4 (place_of 4080 row (17 + x)) 0 ≡ slot_byte s1 (row - 1) x
    joined row x h (inl one) =
        subst (λ k. get_or f4 (place_of 4080 k (17 + x)) 0 ≡ slot_byte s1 (k - 1) x) (sym one)
        (h4.kept (place_of 4080 1 (17 + x)) (λ y l e. omega arith)
        ∙ h3.kept (place_of 4080 1 (17 + x)) (λ y l e. omega arith)
        ∙ h2.kept (place_of 4080 1 (17 + x)) (λ y l e. omega arith)
        ∙ h1.here x h)
    joined row x h (inr (inl two)) =
        subst (λ k. get_or f4 (place_of 4080 k (17 + x)) 0 ≡ slot_byte s1 (k - 1) x) (sym two)
        (h4.kept (place_of 4080 2 (17 + x)) (λ y l e. omega arith)
        ∙ h3.kept (place_of 4080 2 (17 + x)) (λ y l e. omega arith)
        ∙ h2.here x h
        ∙ ap (λ s. slot_byte s 1 x) e2)
    joined row x h (inr (inr (inl three))) =
        subst (λ k. get_or f4 (place_of 4080 k (17 + x)) 0 ≡ slot_byte s1 (k - 1) x) (sym three)
        (h4.kept (place_of 4080 3 (17 + x)) (λ y l e. omega arith)
        ∙ h3.here x h
        ∙ ap (λ s. slot_byte s 2 x) (e3 ∙ e2))
    joined row x h (inr (inr (inr four))) =
        subst (λ k. get_or f4 (place_of 4080 k (17 + x)) 0 ≡ slot_byte s1 (k - 1) x) (sym four)
        (h4.here x h ∙ ap (λ s. slot_byte s 3 x) (e4 ∙ e3 ∙ e2))

-- ---- the bytes that are in no payload column

order : (place n : ℕ) → (place < n) ⊎ (n ≤ place)
order place n = grind arith

-- five runs of bytes were cleared: before the payload of the first row, between that of two rows, and behind that of
-- the last
pub all_beside : (b0 b1 b2 b3 b4 b5 : List ℕ) → length b5 ≡ 16320
    → ((place : ℕ) → 0 ≤ place → place < 16 → get_or b1 place 0 ≡ 0) → ((place : ℕ) → (place < 0) ⊎ (16 ≤ place) → get_or b1 place 0 ≡ get_or b0 place 0)
    → ((place : ℕ) → 3824 ≤ place → place < 4096 → get_or b2 place 0 ≡ 0) → ((place : ℕ) → (place < 3824) ⊎ (4096 ≤ place) → get_or b2 place 0 ≡ get_or b1 place 0)
    → ((place : ℕ) → 7904 ≤ place → place < 8176 → get_or b3 place 0 ≡ 0) → ((place : ℕ) → (place < 7904) ⊎ (8176 ≤ place) → get_or b3 place 0 ≡ get_or b2 place 0)
    → ((place : ℕ) → 11984 ≤ place → place < 12256 → get_or b4 place 0 ≡ 0) → ((place : ℕ) → (place < 11984) ⊎ (12256 ≤ place) → get_or b4 place 0 ≡ get_or b3 place 0)
    → ((place : ℕ) → 16064 ≤ place → place < 16320 → get_or b5 place 0 ≡ 0) → ((place : ℕ) → (place < 16064) ⊎ (16320 ≤ place) → get_or b5 place 0 ≡ get_or b4 place 0)
    → (place : ℕ) → IsOutside place → get_or b5 place 0 ≡ 0
all_beside b0 b1 b2 b3 b4 b5 size z1 k1 z2 k2 z3 k3 z4 k4 z5 k5 place out = go (order place 16)
  where
    past : 16320 ≤ place → get_or b5 place 0 ≡ 0
    past h = get_or-eq_default b5 0 (subst (λ n. n ≤ place) (sym size) h)

    behind : 16064 ≤ place → (place < 16320) ⊎ (16320 ≤ place) → get_or b5 place 0 ≡ 0
    behind h (inl l) = z5 place h l
    behind h (inr l) = past l

    fourth_row : 12256 ≤ place → (place < 16064) ⊎ (16064 ≤ place) → get_or b5 place 0 ≡ 0
    fourth_row h (inl l) = absurd (out 4 (place - 12256) (omega arith) (omega arith) (omega arith) (omega arith))
    fourth_row h (inr l) = behind l (order place 16320)

    fourth : 11984 ≤ place → (place < 12256) ⊎ (12256 ≤ place) → get_or b5 place 0 ≡ 0
    fourth h (inl l) = k5 place (inl (omega arith)) ∙ z4 place h l
    fourth h (inr l) = fourth_row l (order place 16064)

    third_row : 8176 ≤ place → (place < 11984) ⊎ (11984 ≤ place) → get_or b5 place 0 ≡ 0
    third_row h (inl l) = absurd (out 3 (place - 8176) (omega arith) (omega arith) (omega arith) (omega arith))
    third_row h (inr l) = fourth l (order place 12256)

    third : 7904 ≤ place → (place < 8176) ⊎ (8176 ≤ place) → get_or b5 place 0 ≡ 0
    third h (inl l) = k5 place (inl (omega arith)) ∙ k4 place (inl (omega arith)) ∙ z3 place h l
    third h (inr l) = third_row l (order place 11984)

    second_row : 4096 ≤ place → (place < 7904) ⊎ (7904 ≤ place) → get_or b5 place 0 ≡ 0
    second_row h (inl l) = absurd (out 2 (place - 4096) (omega arith) (omega arith) (omega arith) (omega arith))
    second_row h (inr l) = third l (order place 8176)

    second : 3824 ≤ place → (place < 4096) ⊎ (4096 ≤ place) → get_or b5 place 0 ≡ 0
    second h (inl l) = k5 place (inl (omega arith)) ∙ k4 place (inl (omega arith)) ∙ k3 place (inl (omega arith)) ∙ z2 place h l
    second h (inr l) = second_row l (order place 7904)

    first_row : 16 ≤ place → (place < 3824) ⊎ (3824 ≤ place) → get_or b5 place 0 ≡ 0
    first_row h (inl l) = absurd (out 1 (place - 16) (omega arith) (omega arith) (omega arith) (omega arith))
    first_row h (inr l) = second l (order place 4096)

    go : (place < 16) ⊎ (16 ≤ place) → get_or b5 place 0 ≡ 0
    go (inl l) = k5 place (inl (omega arith)) ∙ k4 place (inl (omega arith)) ∙ k3 place (inl (omega arith)) ∙ k2 place (inl (omega arith)) ∙ z1 place (omega arith) l
    go (inr l) = first_row l (order place 3824)

-- ---- what the rows give to the parity

-- the payload of another row is as it was
other_row : (rows before now : List ℕ) (row other : ℕ) → length before ≡ 16320 → 1 ≤ row → row ≤ 4 → 1 ≤ other → other ≤ 4 → (row ≡ other → ⊥) → RowJoined rows row before now
    → row_parity_of 4080 other now ≡ row_parity_of 4080 other before
other_row rows before now row other size low high least most apart h =
    ap (fold bit_xor 0) (same_payload_row 4080 other before now (omega arith) size h.size least most (λ x below.
    h.kept (place_of 4080 other (17 + x)) (λ y l e. apart (sym (same_place 4080 other (17 + x) row (17 + y) least low (omega arith) (omega arith) (omega arith) (omega arith) e).0))))

pub rows_parity : (r1 r2 r3 r4 f0 f1 f2 f3 f4 : List ℕ) (one two three four : ℕ)
    → RowJoined r1 1 f0 f1 → RowJoined r2 2 f1 f2 → RowJoined r3 3 f2 f3 → RowJoined r4 4 f3 f4
    → one ≡ row_parity_of 4080 1 f1 → two ≡ row_parity_of 4080 2 f2 → three ≡ row_parity_of 4080 3 f3 → four ≡ row_parity_of 4080 4 f4
    → bit_xor (bit_xor (bit_xor one two) three) four ≡ payload_parity_of 4080 f4
rows_parity r1 r2 r3 r4 f0 f1 f2 f3 f4 one two three four h1 h2 h3 h4 e1 e2 e3 e4 =
    let p1 : one ≡ row_parity_of 4080 1 f4 = e1
    ∙ sym (other_row r2 f1 f2 2 1 h1.size (omega arith) (omega arith) (omega arith) (omega arith) (λ e. omega arith) h2)
    ∙ sym (other_row r3 f2 f3 3 1 h2.size (omega arith) (omega arith) (omega arith) (omega arith) (λ e. omega arith) h3)
    ∙ sym (other_row r4 f3 f4 4 1 h3.size (omega arith) (omega arith) (omega arith) (omega arith) (λ e. omega arith) h4) in
    let p2 : two ≡ row_parity_of 4080 2 f4 = e2
    ∙ sym (other_row r3 f2 f3 3 2 h2.size (omega arith) (omega arith) (omega arith) (omega arith) (λ e. omega arith) h3)
    ∙ sym (other_row r4 f3 f4 4 2 h3.size (omega arith) (omega arith) (omega arith) (omega arith) (λ e. omega arith) h4) in
    let p3 : three ≡ row_parity_of 4080 3 f4 = e3
    ∙ sym (other_row r4 f3 f4 4 3 h3.size (omega arith) (omega arith) (omega arith) (omega arith) (λ e. omega arith) h4) in
    let q = λ (row : ℕ). row_parity_of 4080 row f4 in
    ap (λ n. bit_xor (bit_xor (bit_xor n two) three) four) p1 ∙ ap (λ n. bit_xor (bit_xor (bit_xor (q 1) n) three) four) p2
    ∙ ap (λ n. bit_xor (bit_xor (bit_xor (q 1) (q 2)) n) four) p3 ∙ ap (bit_xor (bit_xor (bit_xor (q 1) (q 2)) (q 3))) e4
