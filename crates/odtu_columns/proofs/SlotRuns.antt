-- The bytes of one slot, out of the bytes of the slots of a frame's payload.
use Rattle.std.proofs.Common.{◌≡◌, ◌⊎◌, inl, inr, ℕ, ◌+◌, ◌-◌, ◌*◌, ◌<◌, ◌≤◌, List, [], ◌∷◌, Some, length, get_or, ap, sym, subst, ◌∙◌, arith}
use Rattle.std.specs.Prelude.{slice_get}
use Rattle.frame_geometry.specs.Places.{place_of, payload_row_of}
use Rattle.otn_base.specs.SlotList.{IsSlotList}
use Rattle.odtu_columns.specs.BySlots.{IsPayloadOf}
use Rattle.odtu_columns.specs.Payload.{payload_group}
use Rattle.odtu_columns.proofs.JoinRows.{row_number}
use Rattle.odtu_columns.proofs.Rows.{payload_byte}

-- ---- the payload by slots

-- the bytes of a row were split
abbrev RowSplit : (frame : List ℕ) (row : ℕ) (now : List ℕ) → Type 0
RowSplit frame row now = (k j : ℕ) → k < 8 → j < 476 → get_or now (1904 * k + 476 * (row - 1) + j) 0 ≡ get_or frame (place_of 4080 row (17 + (8 * j + k))) 0

-- and those of the others stayed
abbrev OthersStay : (row : ℕ) (before now : List ℕ) → Type 0
OthersStay row before now = (k other j : ℕ) → k < 8 → 1 ≤ other → other ≤ 4 → (other < row) ⊎ (row < other) → j < 476
    → get_or now (1904 * k + 476 * (other - 1) + j) 0 ≡ get_or before (1904 * k + 476 * (other - 1) + j) 0

-- so all rows were split, one after the other
pub four_split : (frame one two three four : List ℕ) → RowSplit frame 1 one → RowSplit frame 2 two → OthersStay 2 one two → RowSplit frame 3 three → OthersStay 3 two three
    → RowSplit frame 4 four → OthersStay 4 three four → IsPayloadOf frame four
four_split frame one two three four h1 h2 s2 h3 s3 h4 s4 = record {
  bytes = λ k row j lk low high lj. is k row j lk lj (row_number row low high);
}
  where
    is : (k row j : ℕ) → k < 8 → j < 476 → (row ≡ 1) ⊎ ((row ≡ 2) ⊎ ((row ≡ 3) ⊎ (row ≡ 4))) → get_or four (1904 * k + 476 * (row - 1) + j) 0 ≡ get_or frame (place_of 4080 row (17 + (8 * j + k))) 0
    is k row j lk lj (inl e) = subst (λ r. get_or four (1904 * k + 476 * (r - 1) + j) 0 ≡ get_or frame (place_of 4080 r (17 + (8 * j + k))) 0) (sym e)
        (s4 k 1 j lk (omega arith) (omega arith) (inl (omega arith)) lj ∙ s3 k 1 j lk (omega arith) (omega arith) (inl (omega arith)) lj ∙ s2 k 1 j lk (omega arith) (omega arith) (inl (omega arith)) lj ∙ h1 k j lk lj)
    is k row j lk lj (inr (inl e)) = subst (λ r. get_or four (1904 * k + 476 * (r - 1) + j) 0 ≡ get_or frame (place_of 4080 r (17 + (8 * j + k))) 0) (sym e)
        (s4 k 2 j lk (omega arith) (omega arith) (inl (omega arith)) lj ∙ s3 k 2 j lk (omega arith) (omega arith) (inl (omega arith)) lj ∙ h2 k j lk lj)
    is k row j lk lj (inr (inr (inl e))) = subst (λ r. get_or four (1904 * k + 476 * (r - 1) + j) 0 ≡ get_or frame (place_of 4080 r (17 + (8 * j + k))) 0) (sym e)
        (s4 k 3 j lk (omega arith) (omega arith) (inl (omega arith)) lj ∙ h3 k j lk lj)
    is k row j lk lj (inr (inr (inr e))) = subst (λ r. get_or four (1904 * k + 476 * (r - 1) + j) 0 ≡ get_or frame (place_of 4080 r (17 + (8 * j + k))) 0) (sym e) (h4 k j lk lj)

-- ---- the bytes of one slot

-- the last slot of a list of one
pub only_slot : (list : List ℕ) (k : ℕ) → length list ≡ 1 → slice_get list (length list - 1) ≡ Some k → list ≡ k ∷ []
only_slot [] k one last = absurd (omega arith)
only_slot (slot ∷ []) k one last = cc
only_slot (slot ∷ other ∷ slots) k one last = absurd (omega arith)

-- it is one of the line's
pub in_line : (line k : ℕ) (list : List ℕ) → IsSlotList line list → list ≡ k ∷ [] → line ≡ 8 → (1 ≤ k) × (k ≤ 8)
in_line line k list slots only eight =
    let all : IsSlotList 8 (k ∷ []) = subst (λ s. IsSlotList s (k ∷ [])) eight (subst (IsSlotList line) only slots) in
    (all.low 0 (omega arith), all.high 0 (omega arith))

-- a byte of the slot is its group in the cycle of its row
pub own_group : (frame by_slots own : List ℕ) (k row cycle : ℕ) → 1 ≤ k → k ≤ 8 → 1 ≤ row → row ≤ 4 → cycle < 476 → IsPayloadOf frame by_slots
    → ((i : ℕ) → i < 1904 → get_or own i 0 ≡ get_or by_slots (1904 * (k - 1) + i) 0)
    → get_or own (476 * (row - 1) + cycle) 0 ∷ [] ≡ payload_group 8 (payload_row_of 4080 row frame) (k ∷ []) cycle
own_group frame by_slots own k row cycle first last low high inside payload slot =
    let x = 8 * cycle + (k - 1) in
    ap (λ byte. byte ∷ []) (
    slot (476 * (row - 1) + cycle) (omega arith)
    ∙ ap (λ n. get_or by_slots n 0) (let e : 1904 * (k - 1) + (476 * (row - 1) + cycle) ≡ 1904 * (k - 1) + 476 * (row - 1) + cycle = omega arith in e)
    ∙ payload.bytes (k - 1) row cycle (omega arith) low high inside
    ∙ sym (payload_byte row x frame (omega arith))
    ∙ ap (λ n. get_or (payload_row_of 4080 row frame) n 0) (let e : x ≡ 8 * cycle + k - 1 = omega arith in e))
