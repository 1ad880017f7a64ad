-- The payload of a client's frame, in its four rows.
use Rattle.std.proofs.Common.{◌≡◌, ◌≢◌, ◌<◌, ◌≤◌, ◌+◌, ◌-◌, ◌*◌, ◌⊎◌, inl, inr, ℕ, List, ◌++◌, length, take, drop, slice_index, arith, sym, ap, ◌∙◌, length-append, length-drop}
use Rattle.std.proofs.Math.Seq.{take-append-le, drop-append-le, drop-append_seam, drop-append-add}
use Rattle.std.proofs.lemmas.List.{get_or-drop, get_or-take, get_or_append_left, get_or-append_right, length-take-le, take-append-drop, drop-drop, take_at}
use Rattle.std.proofs.lemmas.Bool.{cases_lt}
use Rattle.frame_geometry.specs.Places.{place_of, payload_row_of, with_payload_row}
use Rattle.frame_geometry.specs.Loans.{after_row_loan, after_row_loan-whole, length-with_payload_row}
use Rattle.frame_overhead.specs.Runs.{IsPlace, byte_of}
use Rattle.odu_client.specs.AlignedRuns.{payload_of}

row_size : (row : ℕ) (frame : List ℕ) → 1 ≤ row → row ≤ 4 → length frame ≡ 15296 → length (payload_row_of 3824 row frame) ≡ 3808
row_size row frame low high size = length-take-le 3808 (drop (place_of 3824 row 17) frame) (let d = length-drop (place_of 3824 row 17) frame in omega arith)

-- what was written into a row stands there
row_back : (row : ℕ) (frame payload : List ℕ) → 1 ≤ row → row ≤ 4 → length frame ≡ 15296 → length payload ≡ 3808 → payload_row_of 3824 row (with_payload_row 3824 row frame payload) ≡ payload
row_back row frame payload low high size long =
    let start = place_of 3824 row 17 in
    let rest = drop (start + length payload) frame in
    let front : length (take start frame) ≡ start = length-take-le start frame (omega arith) in
    ap (λ k. take 3808 (drop k (take start frame ++ (payload ++ rest)))) (sym front)
    ∙ ap (take 3808) (drop-append_seam (take start frame) (payload ++ rest)) ∙ take_at payload rest 3808 long

-- bytes that stand before others, whatever these are
before_same : (n at : ℕ) (xs ys : List ℕ) → at + n ≤ length xs → take n (drop at (xs ++ ys)) ≡ take n (drop at xs)
before_same n at xs ys within =
    ap (take n) (drop-append-le at xs ys (omega arith)) ∙ take-append-le n (drop at xs) ys (let d = length-drop at xs in omega arith)

row_stays : (row r : ℕ) (frame payload : List ℕ) → 1 ≤ row → row ≤ 4 → 1 ≤ r → r ≤ 4 → r ≢ row → length frame ≡ 15296 → length payload ≡ 3808
    → payload_row_of 3824 r (with_payload_row 3824 row frame payload) ≡ payload_row_of 3824 r frame
row_stays row r frame payload low high least most other size long = elim (cases_lt r row) [
  | inl less ↦
      before_same 3808 (place_of 3824 r 17) (take start frame) (payload ++ rest) (omega (arith, front))
      ∙ sym (before_same 3808 (place_of 3824 r 17) (take start frame) (drop start frame) (omega (arith, front)))
      ∙ ap (λ xs. take 3808 (drop (place_of 3824 r 17) xs)) (take-append-drop start frame)
  | inr more ↦ ap (take 3808) (behind (place_of 3824 r 17) (place_of 3824 r 17 - start - 3808) (let above : row + 1 ≤ r = further more in omega arith))
]
  where
    start : ℕ
    start = place_of 3824 row 17

    rest : List ℕ
    rest = drop (start + length payload) frame

    front : length (take start frame) ≡ start
    front = length-take-le start frame (omega arith)

    further : row ≤ r → row + 1 ≤ r
    further h = elim (cases_lt row r) [
      | inl less ↦ omega arith
      | inr same ↦ absurd (other (omega arith))
    ]

    behind : (at d : ℕ) → at ≡ start + (3808 + d) → drop at (take start frame ++ (payload ++ rest)) ≡ drop at frame
    behind at d e =
        ap (λ k. drop k (take start frame ++ (payload ++ rest))) (let k : at ≡ length (take start frame) + (length payload + d) = omega (arith, front) in k)
        ∙ drop-append-add (take start frame) (payload ++ rest) (length payload + d)
        ∙ drop-append-add payload rest d
        ∙ drop-drop d (start + length payload) frame
        ∙ ap (λ k. drop k frame) (let k : start + length payload + d ≡ at = omega arith in k)

pub small_row : (row : ℕ) → 1 ≤ row → row ≤ 4 → (row ≡ 1) ⊎ ((row ≡ 2) ⊎ ((row ≡ 3) ⊎ (row ≡ 4)))
small_row row low high = elim (cases_lt row 2) [
  | inl a ↦ inl (omega arith)
  | inr a ↦ inr (elim (cases_lt row 3) [
    | inl b ↦ inl (omega arith)
    | inr b ↦ inr (elim (cases_lt row 4) [
      | inl c ↦ inl (omega arith)
      | inr c ↦ inr (omega arith)
    ])
  ])
]

-- a byte of the payload stands in its row
row_byte : (frame : List ℕ) (row k : ℕ) → 1 ≤ row → row ≤ 4 → length frame ≡ 15296 → k < 3808 → slice_index (payload_of frame) (3808 * (row - 1) + k) ≡ slice_index (payload_row_of 3824 row frame) k
row_byte frame row k low high size less = elim (small_row row low high) [
  | inl e ↦ at_row 1 k e (omega arith) (first ((p1 ++ p2) ++ p3) p4 11424 k s123 (omega arith) ∙ first (p1 ++ p2) p3 7616 k s12 (omega arith) ∙ first p1 p2 3808 k s1 less)
  | inr (inl e) ↦ at_row 2 (3808 + k) e (omega arith) (first ((p1 ++ p2) ++ p3) p4 11424 (3808 + k) s123 (omega arith) ∙ first (p1 ++ p2) p3 7616 (3808 + k) s12 (omega arith) ∙ next p1 p2 3808 k s1)
  | inr (inr (inl e)) ↦ at_row 3 (7616 + k) e (omega arith) (first ((p1 ++ p2) ++ p3) p4 11424 (7616 + k) s123 (omega arith) ∙ next (p1 ++ p2) p3 7616 k s12)
  | inr (inr (inr e)) ↦ at_row 4 (11424 + k) e (omega arith) (next ((p1 ++ p2) ++ p3) p4 11424 k s123)
]
  where
    p1 : List ℕ
    p1 = payload_row_of 3824 1 frame

    p2 : List ℕ
    p2 = payload_row_of 3824 2 frame

    p3 : List ℕ
    p3 = payload_row_of 3824 3 frame

    p4 : List ℕ
    p4 = payload_row_of 3824 4 frame

    s1 : length p1 ≡ 3808
    s1 = row_size 1 frame (omega arith) (omega arith) size

    s12 : length (p1 ++ p2) ≡ 7616
    s12 = omega (arith, length-append p1 p2, s1, row_size 2 frame (omega arith) (omega arith) size)

    s123 : length ((p1 ++ p2) ++ p3) ≡ 11424
    s123 = omega (arith, length-append (p1 ++ p2) p3, s12, row_size 3 frame (omega arith) (omega arith) size)

    first : (xs ys : List ℕ) (n i : ℕ) → length xs ≡ n → i < n → slice_index (xs ++ ys) i ≡ slice_index xs i
    first xs ys n i long h = get_or_append_left xs ys 0 i (omega arith)

    next : (xs ys : List ℕ) (n i : ℕ) → length xs ≡ n → slice_index (xs ++ ys) (n + i) ≡ slice_index ys i
    next xs ys n i long = get_or-append_right xs ys n (n + i) 0 long (omega arith) ∙ ap (slice_index ys) (let e : n + i - n ≡ i = omega arith in e)

    at_row : (r i : ℕ) → row ≡ r → i ≡ 3808 * (r - 1) + k → slice_index (payload_of frame) i ≡ slice_index (payload_row_of 3824 r frame) k → slice_index (payload_of frame) (3808 * (row - 1) + k) ≡ slice_index (payload_row_of 3824 row frame) k
    at_row r i e is h =
        let at : 3808 * (row - 1) + k ≡ i = omega arith in
        ap (slice_index (payload_of frame)) at ∙ h ∙ ap (λ x. slice_index (payload_row_of 3824 x frame) k) (sym e)

-- a byte in a payload column
pub payload_byte : (frame : List ℕ) (row col : ℕ) → IsPlace 3824 row col → length frame ≡ 15296 → 17 ≤ col → byte_of 3824 row col frame ≡ slice_index (payload_of frame) (3808 * (row - 1) + (col - 17))
payload_byte frame row col place size back =
    let most = place.col_high in
    let k : col - 17 < 3808 = omega arith in
    let at : place_of 3824 row 17 + (col - 17) ≡ place_of 3824 row col = omega arith in
    sym (row_byte frame row (col - 17) place.row_low place.row_high size k
    ∙ get_or-take 3808 (drop (place_of 3824 row 17) frame) (col - 17) 0 k ∙ get_or-drop (place_of 3824 row 17) frame (col - 17) 0
    ∙ ap (slice_index frame) at)

-- ---- the payload columns of a row, once their loan is over

-- these bytes stand in a row, and the payload of every other row stays
record RowFilled (row : ℕ) (payload old new : List ℕ) : Type 0 where
  size : length new ≡ 15296
  here : payload_row_of 3824 row new ≡ payload
  others : (r : ℕ) → 1 ≤ r → r ≤ 4 → r ≢ row → payload_row_of 3824 r new ≡ payload_row_of 3824 r old

row_filled : (row : ℕ) (frame payload : List ℕ) → 1 ≤ row → row ≤ 4 → length frame ≡ 15296 → length payload ≡ 3808 → RowFilled row payload frame (after_row_loan 3824 row frame payload)
row_filled row frame payload low high size long =
    let is = after_row_loan-whole 3824 row frame payload long size (omega arith) low high in
    record {
      size = ap length is ∙ length-with_payload_row 3824 row frame payload (omega arith) ∙ size;
      here = ap (payload_row_of 3824 row) is ∙ row_back row frame payload low high size long;
      others = λ r least most other. ap (payload_row_of 3824 r) is ∙ row_stays row r frame payload low high least most other size long;
    }

-- ---- all four rows, one after another

abbrev pub filled : (frame p1 p2 p3 p4 : List ℕ) → List ℕ
filled frame p1 p2 p3 p4 = after_row_loan 3824 4 (after_row_loan 3824 3 (after_row_loan 3824 2 (after_row_loan 3824 1 frame p1) p2) p3) p4

pub payload_filled : (frame p1 p2 p3 p4 : List ℕ) → length frame ≡ 15296 → length p1 ≡ 3808 → length p2 ≡ 3808 → length p3 ≡ 3808 → length p4 ≡ 3808
    → payload_of (filled frame p1 p2 p3 p4) ≡ ((p1 ++ p2) ++ p3) ++ p4
payload_filled frame p1 p2 p3 p4 size s1 s2 s3 s4 =
    let f1 = after_row_loan 3824 1 frame p1 in
    let f2 = after_row_loan 3824 2 f1 p2 in
    let one = row_filled 1 frame p1 (omega arith) (omega arith) size s1 in
    let two = row_filled 2 f1 p2 (omega arith) (omega arith) one.size s2 in
    let three = row_filled 3 f2 p3 (omega arith) (omega arith) two.size s3 in
    let four = row_filled 4 (after_row_loan 3824 3 f2 p3) p4 (omega arith) (omega arith) three.size s4 in
    let all = filled frame p1 p2 p3 p4 in
    let row1 : payload_row_of 3824 1 all ≡ p1 = four.others 1 (omega arith) (omega arith) (λ e. omega arith) ∙ three.others 1 (omega arith) (omega arith) (λ e. omega arith) ∙ two.others 1 (omega arith) (omega arith) (λ e. omega arith) ∙ one.here in
    let row2 : payload_row_of 3824 2 all ≡ p2 = four.others 2 (omega arith) (omega arith) (λ e. omega arith) ∙ three.others 2 (omega arith) (omega arith) (λ e. omega arith) ∙ two.here in
    let row3 : payload_row_of 3824 3 all ≡ p3 = four.others 3 (omega arith) (omega arith) (λ e. omega arith) ∙ three.here in
    ap (λ p. ((p ++ payload_row_of 3824 2 all) ++ payload_row_of 3824 3 all) ++ payload_row_of 3824 4 all) row1
    ∙ ap (λ p. ((p1 ++ p) ++ payload_row_of 3824 3 all) ++ payload_row_of 3824 4 all) row2
    ∙ ap (λ p. ((p1 ++ p2) ++ p) ++ payload_row_of 3824 4 all) row3 ∙ ap (λ p. ((p1 ++ p2) ++ p3) ++ p) four.here

pub rows_size : (p1 p2 p3 p4 : List ℕ) → length p1 ≡ 3808 → length p2 ≡ 3808 → length p3 ≡ 3808 → length p4 ≡ 3808 → length (((p1 ++ p2) ++ p3) ++ p4) ≡ 15232
rows_size p1 p2 p3 p4 a b c d = omega (arith, length-append ((p1 ++ p2) ++ p3) p4, length-append (p1 ++ p2) p3, length-append p1 p2)
