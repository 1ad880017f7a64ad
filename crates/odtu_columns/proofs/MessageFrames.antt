-- A frame that has a message, where all else is 0.
use Rattle.std.proofs.Common.{◌≡◌, ◌≢◌, ◌⊎◌, inl, inr, ℕ, zero, suc, ◌+◌, ◌/◌, ◌%◌, ◌<◌, ◌≤◌, Bool, true, false, cond, List, [], ◌∷◌, length, get_or, ap, sym, subst, ◌∙◌, refl, arith}
use Rattle.std.specs.Prelude.{◌&&◌, ◌==◌, nat_lt}
use Rattle.std.proofs.Math.ListN.{get_or-eq_default}
use Rattle.std.proofs.lemmas.Bool.{cond-false}
use Rattle.std.proofs.lemmas.Bool.Decides.{nat_tests}
use Rattle.std.proofs.lemmas.List.FromFn.{length-map-range_with_len, get_or-map-range_with_len}
use Rattle.frame_geometry.specs.Places.{place_of}
use Rattle.odtu_columns.specs.BySlots.{message_byte, message_frame}
use Rattle.odtu_columns.specs.Steps.BySlots.{IsOutside}
use Rattle.odtu_columns.specs.Message.{message_of}
use Rattle.odtu_columns.proofs.PutMessage.{six}

-- a place that is none of a message
abbrev pub IsOther : (place : ℕ) → Type 0
IsOther place = (row column : ℕ) → 1 ≤ row → row ≤ 3 → 15 ≤ column → column ≤ 16 → place ≡ place_of 4080 row column → ⊥

pub length-message_frame : (message : List ℕ) → length (message_frame message) ≡ 16320
unfolding message_frame
length-message_frame message = length-map-range_with_len (message_byte message) 0 16320

at : (message : List ℕ) (place : ℕ) → place < 16320 → get_or (message_frame message) place 0 ≡ message_byte message place
unfolding message_frame
at message place h = get_or-map-range_with_len (message_byte message) 0 16320 place place 0 h (omega arith)

pub message_of-message_frame : (message : List ℕ) → length message ≡ 6 → message_of (message_frame message) ≡ message
message_of-message_frame message many =
    let a : get_or (message_frame message) 15 0 ≡ get_or message 0 0 = at message 15 (omega arith) in
    let b : get_or (message_frame message) 4095 0 ≡ get_or message 1 0 = at message 4095 (omega arith) in
    let c : get_or (message_frame message) 8175 0 ≡ get_or message 2 0 = at message 8175 (omega arith) in
    let d : get_or (message_frame message) 14 0 ≡ get_or message 3 0 = at message 14 (omega arith) in
    let e : get_or (message_frame message) 4094 0 ≡ get_or message 4 0 = at message 4094 (omega arith) in
    let f : get_or (message_frame message) 8174 0 ≡ get_or message 5 0 = at message 8174 (omega arith) in
    let all = six message many in
    cc

no_message : (place k : ℕ) → (place / 4080 < 3 → place % 4080 ≡ k → ⊥) → (nat_lt (place / 4080) 3 && place % 4080 == k) ≡ false
no_message place k none = go (nat_lt (place / 4080) 3 && place % 4080 == k) refl
  where
    facts : (nat_lt (place / 4080) 3 && place % 4080 == k) ≡ true → (place / 4080 < 3) × (place % 4080 ≡ k)
    facts e = grind (arith, nat_tests)

    go : (t : Bool) → (nat_lt (place / 4080) 3 && place % 4080 == k) ≡ t → t ≡ false
    go false e = refl
    go true e = absurd (none (facts e).0 (facts e).1)

order : (place : ℕ) → (place < 16320) ⊎ (16320 ≤ place)
order place = grind arith

pub other_zero : (message : List ℕ) (place : ℕ) → IsOther place → get_or (message_frame message) place 0 ≡ 0
other_zero message place none = go (order place)
  where
    go : (place < 16320) ⊎ (16320 ≤ place) → get_or (message_frame message) place 0 ≡ 0
    go (inr h) = get_or-eq_default (message_frame message) 0 (subst (λ k. k ≤ place) (sym (length-message_frame message)) h)
    go (inl h) =
        let row = place / 4080 in
        at message place h
        ∙ cond-false (nat_lt row 3 && place % 4080 == 15) (get_or message row 0) (cond (nat_lt row 3 && place % 4080 == 14) (get_or message (3 + row) 0) 0)
        (no_message place 15 (λ l e. none (row + 1) 16 (omega arith) (omega arith) (omega arith) (omega arith) (omega arith)))
        ∙ cond-false (nat_lt row 3 && place % 4080 == 14) (get_or message (3 + row) 0) 0
        (no_message place 14 (λ l e. none (row + 1) 15 (omega arith) (omega arith) (omega arith) (omega arith) (omega arith)))

-- ---- where a message stands

same_or : (a b : ℕ) → (a ≡ b) ⊎ (a ≢ b)
same_or a b = grind arith

rows : (row : ℕ) → 1 ≤ row → row ≤ 3 → (row ≡ 1) ⊎ ((row ≡ 2) ⊎ (row ≡ 3))
rows row low high = grind arith

columns : (column : ℕ) → 15 ≤ column → column ≤ 16 → (column ≡ 15) ⊎ (column ≡ 16)
columns column low high = grind arith

is_other : (place : ℕ) → place ≢ 15 → place ≢ 4095 → place ≢ 8175 → place ≢ 14 → place ≢ 4094 → place ≢ 8174 → IsOther place
is_other place a b c d e f row column low high left right at = go (rows row low high) (columns column left right)
  where
    go : (row ≡ 1) ⊎ ((row ≡ 2) ⊎ (row ≡ 3)) → (column ≡ 15) ⊎ (column ≡ 16) → ⊥
    go (inl r) (inl k) = d (omega arith)
    go (inl r) (inr k) = a (omega arith)
    go (inr (inl r)) (inl k) = e (omega arith)
    go (inr (inl r)) (inr k) = b (omega arith)
    go (inr (inr r)) (inl k) = f (omega arith)
    go (inr (inr r)) (inr k) = c (omega arith)

-- a byte of two frames of one message
same_byte : (f g : List ℕ) → message_of f ≡ message_of g → (place : ℕ) → (IsOther place → get_or f place 0 ≡ get_or g place 0) → get_or f place 0 ≡ get_or g place 0
same_byte f g message place other = one (same_or place 15)
  where
    six_of : place ≢ 15 → place ≢ 4095 → place ≢ 8175 → place ≢ 14 → place ≢ 4094 → (place ≡ 8174) ⊎ (place ≢ 8174) → get_or f place 0 ≡ get_or g place 0
    six_of a b c d e (inl is) = subst (λ k. get_or f k 0 ≡ get_or g k 0) (sym is) (ap (λ xs. get_or xs 5 0) message)
    six_of a b c d e (inr not) = other (is_other place a b c d e not)

    five_of : place ≢ 15 → place ≢ 4095 → place ≢ 8175 → place ≢ 14 → (place ≡ 4094) ⊎ (place ≢ 4094) → get_or f place 0 ≡ get_or g place 0
    five_of a b c d (inl is) = subst (λ k. get_or f k 0 ≡ get_or g k 0) (sym is) (ap (λ xs. get_or xs 4 0) message)
    five_of a b c d (inr not) = six_of a b c d not (same_or place 8174)

    four_of : place ≢ 15 → place ≢ 4095 → place ≢ 8175 → (place ≡ 14) ⊎ (place ≢ 14) → get_or f place 0 ≡ get_or g place 0
    four_of a b c (inl is) = subst (λ k. get_or f k 0 ≡ get_or g k 0) (sym is) (ap (λ xs. get_or xs 3 0) message)
    four_of a b c (inr not) = five_of a b c not (same_or place 4094)

    three_of : place ≢ 15 → place ≢ 4095 → (place ≡ 8175) ⊎ (place ≢ 8175) → get_or f place 0 ≡ get_or g place 0
    three_of a b (inl is) = subst (λ k. get_or f k 0 ≡ get_or g k 0) (sym is) (ap (λ xs. get_or xs 2 0) message)
    three_of a b (inr not) = four_of a b not (same_or place 14)

    two_of : place ≢ 15 → (place ≡ 4095) ⊎ (place ≢ 4095) → get_or f place 0 ≡ get_or g place 0
    two_of a (inl is) = subst (λ k. get_or f k 0 ≡ get_or g k 0) (sym is) (ap (λ xs. get_or xs 1 0) message)
    two_of a (inr not) = three_of a not (same_or place 8175)

    one : (place ≡ 15) ⊎ (place ≢ 15) → get_or f place 0 ≡ get_or g place 0
    one (inl is) = subst (λ k. get_or f k 0 ≡ get_or g k 0) (sym is) (ap (λ xs. get_or xs 0 0) message)
    one (inr not) = two_of not (same_or place 4095)

-- a message put where all that is in no payload column is 0
pub put_alone : (before now message : List ℕ) → length message ≡ 6 → ((place : ℕ) → IsOutside place → get_or before place 0 ≡ 0) → message_of now ≡ message
    → ((place : ℕ) → IsOther place → get_or now place 0 ≡ get_or before place 0)
    → (place : ℕ) → IsOutside place → get_or now place 0 ≡ get_or (message_frame message) place 0
put_alone before now message many blank is kept place out =
    same_byte now (message_frame message) (is ∙ sym (message_of-message_frame message many)) place
    (λ none. kept place none ∙ blank place out ∙ sym (other_zero message place none))

-- a message of bytes 0
abbrev zeros : List ℕ
zeros = 0 ∷ 0 ∷ 0 ∷ 0 ∷ 0 ∷ 0 ∷ []

pub all_zero : (place : ℕ) → get_or (message_frame zeros) place 0 ≡ 0
all_zero place = go (order place)
  where
    each : (row : ℕ) → get_or zeros row 0 ≡ 0
    each zero = refl
    each (suc zero) = refl
    each (suc (suc zero)) = refl
    each (suc (suc (suc zero))) = refl
    each (suc (suc (suc (suc zero)))) = refl
    each (suc (suc (suc (suc (suc zero))))) = refl
    each (suc (suc (suc (suc (suc (suc row)))))) = refl

    either : (a b : Bool) (x y : ℕ) → x ≡ 0 → y ≡ 0 → cond a x (cond b y 0) ≡ 0
    either true b x y e f = e
    either false true x y e f = f
    either false false x y e f = refl

    go : (place < 16320) ⊎ (16320 ≤ place) → get_or (message_frame zeros) place 0 ≡ 0
    go (inr h) = get_or-eq_default (message_frame zeros) 0 (subst (λ k. k ≤ place) (sym (length-message_frame zeros)) h)
    go (inl h) = at zeros place h ∙ either _ _ _ _ (each (place / 4080)) (each (3 + place / 4080))
