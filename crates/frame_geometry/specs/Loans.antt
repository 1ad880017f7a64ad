-- API: what a frame holds once a loan of its bytes is over. A loan keeps its length, which no clause on a loan can
-- presume: so each word here is total, and has a law that says what it is for bytes of the length that was lent.
use Rattle.std.specs.Prelude.{◌≡◌, ℕ, ◌+◌, ◌*◌, ◌≤◌, List, length}
use Rattle.std.specs.List.{refill}
use Rattle.std.proofs.Common.{◌++◌, ◌-◌, take, drop, arith, sym, ◌∙◌, length-append, length-drop}
use Rattle.std.proofs.lemmas.List.{take_at, length-take-le, length-set}
use Rattle.frame_geometry.specs.Places.{place_of, with_payload_row}
use Rattle.otn_base.specs.declared.limits.TheConstants.{LAST_PAYLOAD_COLUMN, PAYLOAD_COLUMNS}

-- All bytes were lent, and these were left behind the loan.
unfoldable pub after_loan : (cols : ℕ) → (frame bytes : List ℕ) → List ℕ
after_loan cols frame bytes = refill (4 * cols) frame bytes

-- The payload columns of a row were lent, and these bytes were left behind the loan.
unfoldable pub after_row_loan : (cols row : ℕ) → (frame payload : List ℕ) → List ℕ
after_row_loan cols row frame payload = refill (4 * cols) frame (with_payload_row cols row frame payload)

refill-whole : (n : ℕ) (old new : List ℕ) → length new ≡ n → refill n old new ≡ new
refill-whole n old new e = take_at new (drop (length new) old) n e

-- Payload bytes put into a row where there is room for them leave the frame's length as it is.
pub length-with_payload_row : (cols row : ℕ) (frame payload : List ℕ)
    → place_of cols row 17 + length payload ≤ length frame
    → length (with_payload_row cols row frame payload) ≡ length frame
length-with_payload_row cols row frame payload room =
    let start = place_of cols row 17 in
    let rest = drop (start + length payload) frame in
    let front : length (take start frame) ≡ start = length-take-le start frame (omega arith) in
    omega (
      arith,
      front,
      length-append (take start frame) (payload ++ rest),
      length-append payload rest,
      length-drop
          (start + length payload) frame,
    )

-- as many bytes as the frame has: the frame is these bytes
pub after_loan-whole : (cols : ℕ) (frame bytes : List ℕ) → length bytes ≡ 4 * cols → after_loan cols frame bytes ≡ bytes
unfolding after_loan
after_loan-whole cols frame bytes e = refill-whole (4 * cols) frame bytes e

-- as many bytes as the row has payload columns: they stand in these columns, and every other byte stays
pub after_row_loan-whole : (cols row : ℕ) (frame payload : List ℕ) → length payload ≡ PAYLOAD_COLUMNS
    → length frame ≡ 4 * cols
    → LAST_PAYLOAD_COLUMN ≤ cols → 1 ≤ row → row ≤ 4
    → after_row_loan cols row frame payload ≡ with_payload_row cols row frame payload
unfolding after_row_loan
after_row_loan-whole cols row frame payload e size wide low high =
    let room : place_of cols row 17 + length payload ≤ length frame = grind arith in
    refill-whole (4 * cols) frame (with_payload_row cols row frame payload)
    (length-with_payload_row cols row frame payload room ∙ size)

pub ruleset loans = (after_loan-whole, after_row_loan-whole, length-set)
