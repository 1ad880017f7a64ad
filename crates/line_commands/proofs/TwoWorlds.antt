-- Bytes outside a slot's own columns change nothing.
use Rattle.std.proofs.Common.{◌≡◌, ◌<◌, ◌≤◌, ◌+◌, ◌/◌, ◌∙◌, ℕ, zero, suc, Bool, true, false, cond, List, ◌∷◌, length, map, filter, get_or, nat_eq, min, refl, ap, arith}
use Rattle.std.proofs.lemmas.Bool.Decides.{Decides-eqb}
use Rattle.std.specs.List.{flat_map, range_with_len}
use Rattle.frame_geometry.specs.Places.{place_of}
use Rattle.odtu_columns.specs.Columns.{slot_of, columns_of, slot_row_of}
use Rattle.line_commands.specs.Agreements.{AgreeOnSlot}
use Rattle.line_side.specs.LineFile.{frame_at}
use Rattle.command_base.proofs.Rows.{flat_same}
use Rattle.line_commands.specs.SlotReport.{slot_bytes, slot_bytes_until, slot_report, whole_frames_used}

-- what is made of the numbers that pass a test is the same where it is the same at each of them
rows_same : (p : ℕ → Bool) (g h : ℕ → ℕ) (a n : ℕ) → ((x : ℕ) → a ≤ x → x < a + n → p x ≡ true → g x ≡ h x)
    → map g (filter p (range_with_len a n)) ≡ map h (filter p (range_with_len a n))
rows_same p g h a zero same = refl
rows_same p g h a (suc n) same =
    let later = rows_same p g h (a + 1) n (λ x low high passes. same x (omega arith) (omega arith) passes) in
    by_test (p a) refl later
  where
    by_test : (b : Bool) → p a ≡ b → map g (filter p (range_with_len (a + 1) n)) ≡ map h (filter p (range_with_len (a + 1) n))
        → map g (cond b (a ∷ filter p (range_with_len (a + 1) n)) (filter p (range_with_len (a + 1) n)))
        ≡ map h (cond b (a ∷ filter p (range_with_len (a + 1) n)) (filter p (range_with_len (a + 1) n)))
    by_test true passes later = ap (λ x. x ∷ map g (filter p (range_with_len (a + 1) n))) (same a (omega arith) (omega arith) passes) ∙ ap (λ xs. h a ∷ xs) later
    by_test false passes later = later

row_same : (slot : ℕ) (one other : List ℕ) (f row : ℕ) → AgreeOnSlot slot one other → f < length one / 16320 → 1 ≤ row → row ≤ 4
    → slot_row_of 8 slot row (frame_at one f) ≡ slot_row_of 8 slot row (frame_at other f)
unfolding columns_of
row_same slot one other f row agree whole low high =
    rows_same (λ column. nat_eq (slot_of 8 column) slot) (λ column. get_or (frame_at one f) (place_of 4080 row column) 0)
    (λ column. get_or (frame_at other f) (place_of 4080 row column) 0) 17 3808
    (λ column first last passes. agree.bytes f row column whole low high first (omega arith) ((Decides-eqb (slot_of 8 column) slot).0 passes))

frame_same : (slot : ℕ) (one other : List ℕ) (f : ℕ) → AgreeOnSlot slot one other → f < length one / 16320
    → slot_bytes slot (frame_at one f) ≡ slot_bytes slot (frame_at other f)
unfolding slot_bytes
frame_same slot one other f agree whole =
    flat_same (λ row. slot_row_of 8 slot row (frame_at one f)) (λ row. slot_row_of 8 slot row (frame_at other f)) 1 4
    (λ row low high. row_same slot one other f row agree whole low (omega arith))

used_same : (n m : ℕ) → n / 16320 ≡ m / 16320 → whole_frames_used n ≡ whole_frames_used m
unfolding whole_frames_used
used_same n m e = ap (λ k. min 131072 k) e

used_whole : (n f : ℕ) → f < 0 + whole_frames_used n → f < n / 16320
unfolding whole_frames_used
used_whole n f below = omega arith

-- lines that agree on a slot's own columns give one report
pub same_report : (slot : ℕ) (one other : List ℕ) → AgreeOnSlot slot one other → slot_report slot one ≡ slot_report slot other
unfolding slot_report slot_bytes_until
same_report slot one other agree =
    flat_same (λ f. slot_bytes slot (frame_at one f)) (λ f. slot_bytes slot (frame_at other f)) 0 (whole_frames_used (length one))
    (λ f low below. frame_same slot one other f agree (used_whole (length one) f below))
    ∙ ap (λ n. flat_map (λ f. slot_bytes slot (frame_at other f)) (range_with_len 0 n)) (used_same (length one) (length other) agree.frames)
