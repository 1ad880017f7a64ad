-- The parity of a frame out of its rows.
use Rattle.std.proofs.Common.{◌≡◌, inl, inr, ℕ, ◌+◌, ◌-◌, ◌*◌, ◌<◌, ◌≤◌, List, [], ◌∷◌, ◌++◌, length, get_or, take, drop, ap, sym, ◌∙◌, refl, arith, length-drop}
use Rattle.std.proofs.lemmas.List.{length-take-le, get_or-take, get_or-drop, drop_more, ext_get_or}
use Rattle.frame_geometry.specs.Places.{IsWidth, place_of, payload_row_of}
use Rattle.frame_geometry.specs.PayloadParity.{row_parity_of, payload_parity_of}
use Rattle.std.specs.Prelude.{fold, bit_xor}
use Rattle.std.specs.Int.Bits.{xor_zero_l, xor_zero_r, xor_assoc, xor_comm}
use Rattle.std.proofs.lemmas.List.Sums.{fold-append}
use Rattle.frame_overhead.specs.Parity.{opu_row_of, parity_of}

-- the exclusive or that a fold begins with can be put in front
fold_from : (a : ℕ) (xs : List ℕ) → fold bit_xor a xs ≡ bit_xor a (fold bit_xor 0 xs)
fold_from a [] = sym (xor_zero_r a)
fold_from a (x ∷ xs) =
    fold_from (bit_xor a x) xs ∙ xor_assoc a x (fold bit_xor 0 xs) ∙ ap (bit_xor a) (sym (ap (λ b. fold bit_xor b xs) (xor_zero_l x) ∙ fold_from x xs))

-- the exclusive or of a list and of one behind it
two_lists : (xs ys : List ℕ) → fold bit_xor 0 (xs ++ ys) ≡ bit_xor (fold bit_xor 0 xs) (fold bit_xor 0 ys)
two_lists xs ys = fold-append bit_xor 0 xs ys ∙ fold_from (fold bit_xor 0 xs) ys

-- row by row
pub by_rows : (cols one two three four : ℕ) (a b c d frame : List ℕ)
    → a ≡ opu_row_of cols 1 frame → b ≡ opu_row_of cols 2 frame → c ≡ opu_row_of cols 3 frame → d ≡ opu_row_of cols 4 frame
    → one ≡ fold bit_xor 0 a → two ≡ fold bit_xor 0 b → three ≡ fold bit_xor 0 c → four ≡ fold bit_xor 0 d
    → bit_xor (bit_xor (bit_xor one two) three) four ≡ parity_of cols frame
unfolding parity_of
by_rows cols one two three four a b c d frame ea eb ec ed e1 e2 e3 e4 =
    let f = fold bit_xor 0 in
    let r = λ (row : ℕ). opu_row_of cols row frame in
    let p : one ≡ f (r 1) = e1 ∙ ap f ea in
    let q : two ≡ f (r 2) = e2 ∙ ap f eb in
    let s : three ≡ f (r 3) = e3 ∙ ap f ec in
    let t : four ≡ f (r 4) = e4 ∙ ap f ed in
    ap (λ x. bit_xor (bit_xor (bit_xor x two) three) four) p ∙ ap (λ x. bit_xor (bit_xor (bit_xor (f (r 1)) x) three) four) q
    ∙ ap (λ x. bit_xor (bit_xor (bit_xor (f (r 1)) (f (r 2))) x) four) s ∙ ap (bit_xor (bit_xor (bit_xor (f (r 1)) (f (r 2))) (f (r 3)))) t
    ∙ xor_assoc (bit_xor (f (r 1)) (f (r 2))) (f (r 3)) (f (r 4))
    ∙ xor_assoc (f (r 1)) (f (r 2)) (bit_xor (f (r 3)) (f (r 4)))
    ∙ ap (λ x. bit_xor (f (r 1)) (bit_xor (f (r 2)) x)) (sym (two_lists (r 3) (r 4)))
    ∙ ap (bit_xor (f (r 1))) (sym (two_lists (r 2) (r 3 ++ r 4)))
    ∙ sym (two_lists (r 1) (r 2 ++ (r 3 ++ r 4)))

-- a row's OPU area as it is lent
pub opu_row_is : (cols row a e : ℕ) (bytes frame : List ℕ) → bytes ≡ frame → a ≡ place_of cols row 15 → e ≡ a + 3810 → take (e - a) (drop a bytes) ≡ opu_row_of cols row frame
opu_row_is cols row a e bytes frame same at end =
    let size : e - a ≡ 3810 = omega (arith, end) in
    ap (λ n. take n (drop a bytes)) size ∙ ap (λ n. take 3810 (drop n bytes)) at ∙ ap (λ xs. take 3810 (drop (place_of cols row 15) xs)) same

same_row : (cols row : ℕ) (old new : List ℕ) → 3824 ≤ cols → length old ≡ 4 * cols → length new ≡ 4 * cols → 1 ≤ row → row ≤ 4
    → ((col : ℕ) → 15 ≤ col → col ≤ 3824 → get_or new (place_of cols row col) 0 ≡ get_or old (place_of cols row col) 0)
    → opu_row_of cols row new ≡ opu_row_of cols row old
same_row cols row old new wide sized size low high same =
    let start = place_of cols row 15 in
    let room : start + 3810 ≤ 4 * cols = grind arith in
    let many : length (take 3810 (drop start new)) ≡ 3810 = length-take-le 3810 (drop start new) (omega (arith, length-drop start new, room)) in
    let wanted : length (take 3810 (drop start old)) ≡ 3810 = length-take-le 3810 (drop start old) (omega (arith, length-drop start old, room)) in
    ext_get_or 0 (take 3810 (drop start new)) (take 3810 (drop start old)) (many ∙ sym wanted) (λ i h.
    let below : i < 3810 = omega (arith, many, h) in
    let here : start + i ≡ place_of cols row (15 + i) = omega arith in
    get_or-take 3810 (drop start new) i 0 below ∙ get_or-drop start new i 0
    ∙ ap (λ place. get_or new place 0) here
    ∙ same (15 + i) (omega arith) (omega (arith, below))
    ∙ sym (get_or-take 3810 (drop start old) i 0 below ∙ get_or-drop start old i 0 ∙ ap (λ place. get_or old place 0) here))

-- the parity of a frame rests on its OPU area alone
pub same_parity : (cols : ℕ) (old new : List ℕ) → 3824 ≤ cols → length old ≡ 4 * cols → length new ≡ 4 * cols
    → ((row col : ℕ) → 1 ≤ row → row ≤ 4 → 15 ≤ col → col ≤ 3824 → get_or new (place_of cols row col) 0 ≡ get_or old (place_of cols row col) 0)
    → parity_of cols new ≡ parity_of cols old
unfolding parity_of
same_parity cols old new wide sized size same =
    let row : (r : ℕ) → 1 ≤ r → r ≤ 4 → opu_row_of cols r new ≡ opu_row_of cols r old = λ r low high. same_row cols r old new wide sized size low high (λ col a b. same r col low high a b) in
    ap (fold bit_xor 0)
    (ap (λ xs. xs ++ (opu_row_of cols 2 new ++ (opu_row_of cols 3 new ++ opu_row_of cols 4 new))) (row 1 (omega arith) (omega arith))
    ∙ ap (λ xs. opu_row_of cols 1 old ++ (xs ++ (opu_row_of cols 3 new ++ opu_row_of cols 4 new))) (row 2 (omega arith) (omega arith))
    ∙ ap (λ xs. opu_row_of cols 1 old ++ (opu_row_of cols 2 old ++ (xs ++ opu_row_of cols 4 new))) (row 3 (omega arith) (omega arith))
    ∙ ap (λ xs. opu_row_of cols 1 old ++ (opu_row_of cols 2 old ++ (opu_row_of cols 3 old ++ xs))) (row 4 (omega arith) (omega arith)))

-- ---- the parity out of what the payload gives

-- the OPU area of a row is two bytes of overhead and the payload
opu_row_begins : (cols row : ℕ) (frame : List ℕ) → 3824 ≤ cols → length frame ≡ 4 * cols → 1 ≤ row → row ≤ 4
    → opu_row_of cols row frame ≡ get_or frame (place_of cols row 15) 0 ∷ get_or frame (place_of cols row 16) 0 ∷ payload_row_of cols row frame
opu_row_begins cols row frame wide size low high =
    let start = place_of cols row 15 in
    let room : start + 3810 ≤ 4 * cols = grind arith in
    let second : start + 1 ≡ place_of cols row 16 = omega arith in
    let third : start + 1 + 1 ≡ place_of cols row 17 = omega arith in
    ap (take 3810) (drop_more frame start 0 (omega (arith, size, room)))
    ∙ ap (λ xs. get_or frame start 0 ∷ take 3809 xs) (drop_more frame (start + 1) 0 (omega (arith, size, room)))
    ∙ ap (λ n. get_or frame start 0 ∷ get_or frame n 0 ∷ take 3808 (drop (start + 1 + 1) frame)) second
    ∙ ap (λ n. get_or frame start 0 ∷ get_or frame (place_of cols row 16) 0 ∷ take 3808 (drop n frame)) third

row_begins : (cols row : ℕ) (frame : List ℕ) → 3824 ≤ cols → length frame ≡ 4 * cols → 1 ≤ row → row ≤ 4
    → fold bit_xor 0 (opu_row_of cols row frame) ≡ bit_xor (bit_xor (get_or frame (place_of cols row 15) 0) (get_or frame (place_of cols row 16) 0)) (row_parity_of cols row frame)
row_begins cols row frame wide size low high =
    let a = get_or frame (place_of cols row 15) 0 in
    let b = get_or frame (place_of cols row 16) 0 in
    ap (fold bit_xor 0) (opu_row_begins cols row frame wide size low high)
    ∙ ap (λ n. fold bit_xor (bit_xor n b) (payload_row_of cols row frame)) (xor_zero_l a)
    ∙ fold_from (bit_xor a b) (payload_row_of cols row frame)

-- two pairs, turned round
pairs_turned : (a b c d : ℕ) → bit_xor (bit_xor a b) (bit_xor c d) ≡ bit_xor (bit_xor a c) (bit_xor b d)
pairs_turned a b c d =
    xor_assoc a b (bit_xor c d)
    ∙ ap (bit_xor a) (sym (xor_assoc b c d) ∙ ap (λ n. bit_xor n d) (xor_comm b c) ∙ xor_assoc c b d)
    ∙ sym (xor_assoc a c (bit_xor b d))

-- the overhead of all rows, and then the payload
pub with_payload : (cols a b c d payload : ℕ) (frame : List ℕ) → 3824 ≤ cols → length frame ≡ 4 * cols
    → a ≡ bit_xor (get_or frame (place_of cols 1 15) 0) (get_or frame (place_of cols 1 16) 0)
    → b ≡ bit_xor (get_or frame (place_of cols 2 15) 0) (get_or frame (place_of cols 2 16) 0)
    → c ≡ bit_xor (get_or frame (place_of cols 3 15) 0) (get_or frame (place_of cols 3 16) 0)
    → d ≡ bit_xor (get_or frame (place_of cols 4 15) 0) (get_or frame (place_of cols 4 16) 0)
    → payload ≡ payload_parity_of cols frame
    → bit_xor (bit_xor (bit_xor (bit_xor a b) c) d) payload ≡ parity_of cols frame
with_payload cols a b c d payload frame wide size ea eb ec ed same =
    let p = λ (row : ℕ). row_parity_of cols row frame in
    let begins : (row of : ℕ) → 1 ≤ row → row ≤ 4 → of ≡ bit_xor (get_or frame (place_of cols row 15) 0) (get_or frame (place_of cols row 16) 0)
    → bit_xor of (p row) ≡ fold bit_xor 0 (opu_row_of cols row frame) =
    λ row of low high e. ap (λ n. bit_xor n (p row)) e ∙ sym (row_begins cols row frame wide size low high) in
    ap (bit_xor (bit_xor (bit_xor (bit_xor a b) c) d)) same
    ∙ pairs_turned (bit_xor (bit_xor a b) c) d (bit_xor (bit_xor (p 1) (p 2)) (p 3)) (p 4)
    ∙ ap (λ n. bit_xor n (bit_xor d (p 4))) (pairs_turned (bit_xor a b) c (bit_xor (p 1) (p 2)) (p 3))
    ∙ ap (λ n. bit_xor (bit_xor n (bit_xor c (p 3))) (bit_xor d (p 4))) (pairs_turned a b (p 1) (p 2))
    ∙ by_rows cols (bit_xor a (p 1)) (bit_xor b (p 2)) (bit_xor c (p 3)) (bit_xor d (p 4)) _ _ _ _ frame refl refl refl refl
    (begins 1 a (omega arith) (omega arith) ea) (begins 2 b (omega arith) (omega arith) eb)
    (begins 3 c (omega arith) (omega arith) ec) (begins 4 d (omega arith) (omega arith) ed)

-- the overhead of a row as it is lent
pub pair_is : (cols row at : ℕ) (bytes frame : List ℕ) → bytes ≡ frame → at ≡ place_of cols row 15
    → bit_xor (get_or bytes at 0) (get_or bytes (at + 1) 0) ≡ bit_xor (get_or frame (place_of cols row 15) 0) (get_or frame (place_of cols row 16) 0)
pair_is cols row at bytes frame same here =
    let next : at + 1 ≡ place_of cols row 16 = omega (arith, here) in
    ap (λ xs. bit_xor (get_or xs at 0) (get_or xs (at + 1) 0)) same
    ∙ ap (λ n. bit_xor (get_or frame n 0) (get_or frame (at + 1) 0)) here
    ∙ ap (λ n. bit_xor (get_or frame (place_of cols row 15) 0) (get_or frame n 0)) next

pub wide_enough : (cols : ℕ) → IsWidth cols → 3824 ≤ cols
wide_enough cols (inl line) = omega (arith, line)
wide_enough cols (inr client) = omega (arith, client)
