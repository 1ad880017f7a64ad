-- The part of a frame's BIP-8 that its payload gives.
use Rattle.std.specs.Prelude.{◌≡◌, ℕ, ◌+◌, ◌*◌, ◌<◌, ◌≤◌, List, length, take, drop, fold, bit_xor, slice_index}
use Rattle.std.proofs.Common.{ap, sym, ◌∙◌, arith, length-drop}
use Rattle.std.proofs.lemmas.List.{length-take-le, get_or-take, get_or-drop, ext_get_or}
use Rattle.frame_geometry.specs.Places.{place_of, payload_row_of}

-- G.709 clauses 15.7.2.1 and 15.8.2.1: what the payload columns of a row, 17 to 3824, give to the BIP-8 of the frame
abbrev pub row_parity_of : (cols row : ℕ) → List ℕ → ℕ
row_parity_of cols row frame = fold bit_xor 0 (payload_row_of cols row frame)

-- what those of all four rows give; what is left of the BIP-8 is of columns 15 and 16
abbrev pub payload_parity_of : (cols : ℕ) → List ℕ → ℕ
payload_parity_of cols frame = bit_xor (bit_xor (bit_xor (row_parity_of cols 1 frame) (row_parity_of cols 2 frame))
    (row_parity_of cols 3 frame)) (row_parity_of cols 4 frame)

-- The payload of a row is the same where each of its bytes is.
pub same_payload_row : (cols row : ℕ) (old new : List ℕ) → 3824 ≤ cols → length old ≡ 4 * cols → length new ≡ 4 * cols
    → 1 ≤ row → row ≤ 4 → ((x : ℕ) → x < 3808
    → slice_index new (place_of cols row (17 + x)) ≡ slice_index old (place_of cols row (17 + x)))
    → payload_row_of cols row new ≡ payload_row_of cols row old
same_payload_row cols row old new wide sized size low high same =
    let start = place_of cols row 17 in
    let room : start + 3808 ≤ 4 * cols = grind arith in
    let many : length (take 3808 (drop start new)) ≡ 3808 = length-take-le 3808 (drop start new)
    (omega (arith, length-drop start new, room)) in
    let wanted : length (take 3808 (drop start old)) ≡ 3808 = length-take-le 3808 (drop start old)
    (omega (arith, length-drop start old, room)) in
    ext_get_or 0 (take 3808 (drop start new)) (take 3808 (drop start old)) (many ∙ sym wanted) (λ x h.
    let below : x < 3808 = omega (arith, many, h) in
    let here : start + x ≡ place_of cols row (17 + x) = omega arith in
    get_or-take 3808 (drop start new) x 0 below ∙ get_or-drop start new x 0 ∙ ap (slice_index new) here
    ∙ same x below
    ∙ sym (get_or-take 3808 (drop start old) x 0 below ∙ get_or-drop start old x 0 ∙ ap (slice_index old) here))

-- The payload's part of the BIP-8 is the same where each byte of the payload is.
pub same_payload_parity : (cols : ℕ) (old new : List ℕ) → 3824 ≤ cols → length old ≡ 4 * cols → length new ≡ 4 * cols
    → ((row x : ℕ) → 1 ≤ row → row ≤ 4 → x < 3808
    → slice_index new (place_of cols row (17 + x)) ≡ slice_index old (place_of cols row (17 + x)))
    → payload_parity_of cols new ≡ payload_parity_of cols old
same_payload_parity cols old new wide sized size same =
    let now = λ (row : ℕ). row_parity_of cols row new in
    let was = λ (row : ℕ). row_parity_of cols row old in
    let all : (a b c d : ℕ) → ℕ = λ a b c d. bit_xor (bit_xor (bit_xor a b) c) d in
    let row : (r : ℕ) → 1 ≤ r → r ≤ 4 → now r ≡ was r = λ r low high. ap (fold bit_xor 0)
    (same_payload_row cols r old new wide sized size low high (λ x h. same r x low high h)) in
    ap (λ n. all n (now 2) (now 3) (now 4)) (row 1 (omega arith) (omega arith))
    ∙ ap (λ n. all (was 1) n (now 3) (now 4)) (row 2 (omega arith) (omega arith))
    ∙ ap (λ n. all (was 1) (was 2) n (now 4)) (row 3 (omega arith) (omega arith))
    ∙ ap (λ n. all (was 1) (was 2) (was 3) n) (row 4 (omega arith) (omega arith))
