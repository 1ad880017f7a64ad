-- API: what the bytes of all slots are once a loan of one slot's bytes is over. A loan keeps its length, which no
-- clause on a loan can presume: so the word here is total, and has a law that says what it is for as many bytes as were
-- lent.
use Rattle.std.specs.Prelude.{◌≡◌, ℕ, ◌+◌, ◌-◌, ◌*◌, ◌/◌, ◌≤◌, List, length}
use Rattle.std.specs.List.{refill}
use Rattle.std.proofs.Common.{◌++◌, take, drop, arith, length-append, length-drop}
use Rattle.std.proofs.lemmas.List.{take_at, length-take-le}
use Rattle.otn_base.specs.declared.limits.TheConstants.{PAYLOAD_COLUMNS}

-- Some bytes written over others from a place on.
abbrev pub written_at : (place : ℕ) → (rows bytes : List ℕ) → List ℕ
written_at place rows bytes = take place rows ++ (bytes ++ drop (place + length bytes) rows)

-- The bytes of a slot were lent, and these were left behind the loan.
unfoldable pub after_slot_loan : (slots slot : ℕ) → (rows bytes : List ℕ) → List ℕ
after_slot_loan slots slot rows bytes = refill PAYLOAD_COLUMNS rows
    (written_at (PAYLOAD_COLUMNS / slots * (slot - 1)) rows bytes)

length-written_at : (place : ℕ) (rows bytes : List ℕ) → place + length bytes ≤ length rows
    → length (written_at place rows bytes) ≡ length rows
length-written_at place rows bytes room =
    let rest = drop (place + length bytes) rows in
    let front : length (take place rows) ≡ place = length-take-le place rows (omega arith) in
    omega (
      arith,
      front,
      length-append (take place rows) (bytes ++ rest),
      length-append bytes rest,
      length-drop
          (place + length bytes) rows,
    )

-- As many bytes as a slot has: they stand in its place, and every other byte stays.
pub after_slot_loan-whole : (slots slot : ℕ) (rows bytes : List ℕ) → length rows ≡ PAYLOAD_COLUMNS
    → PAYLOAD_COLUMNS / slots * (slot - 1) + length bytes ≤ PAYLOAD_COLUMNS
    → after_slot_loan slots slot rows bytes ≡ written_at (PAYLOAD_COLUMNS / slots * (slot - 1)) rows bytes
unfolding after_slot_loan
after_slot_loan-whole slots slot rows bytes size room =
    let place = PAYLOAD_COLUMNS / slots * (slot - 1) in
    let same : length (written_at place rows bytes) ≡ length rows = length-written_at place rows bytes (omega arith) in
    take_at (written_at place rows bytes) (drop (length (written_at place rows bytes)) rows) PAYLOAD_COLUMNS
    (omega arith)

pub ruleset loans = (after_slot_loan-whole)
