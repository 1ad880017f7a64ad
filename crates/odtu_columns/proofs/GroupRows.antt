-- Groups out of the payload of a row: cycle by cycle, and as groups of the frame.
use Rattle.std.proofs.Common.{◌≡◌, ℕ, zero, suc, ◌+◌, ◌*◌, ◌/◌, ◌<◌, ◌≤◌, List, [], ◌∷◌, ◌++◌, get_or, refl, ap, ◌∙◌, arith}
use Rattle.std.specs.Prelude.{All}
use Rattle.std.specs.List.{range_with_len, flat_map}
use Rattle.std.proofs.lemmas.List.{get_or_default}
use Rattle.frame_geometry.specs.Places.{place_of, payload_row_of}
use Rattle.otn_base.specs.LineSlots.{IsSlotNumber}
use Rattle.otn_base.specs.SlotList.{IsSlotList}
use Rattle.odtu_columns.specs.Groups.{group_at, row_groups_of}
use Rattle.odtu_columns.specs.Payload.{payload_group, run_groups}
use Rattle.odtu_columns.specs.Steps.Payload.{payload_groups}
use Rattle.odtu_columns.proofs.LineCycles.{whole_cycles}
use Rattle.odtu_columns.proofs.Rows.{cycle_byte}

-- the slots of a list of slots
pub each_slot : (line : ℕ) (slots : List ℕ) → IsSlotList line slots → All (λ slot. (1 ≤ slot) × (slot ≤ line)) slots
each_slot line slots list k d h =
    let same : get_or slots k d ≡ get_or slots k 0 = get_or_default slots k d 0 h in
    (rw same (list.low k h), rw same (list.high k h))

-- a group out of the payload of a row is one of the frame
pub payload_group-frame : (line row cycle : ℕ) (frame slots : List ℕ) → IsSlotNumber line → cycle < 3808 / line → All (λ slot. (1 ≤ slot) × (slot ≤ line)) slots
    → payload_group line (payload_row_of 4080 row frame) slots cycle ≡ group_at line slots row cycle frame
payload_group-frame line row cycle frame [] number below each = refl
payload_group-frame line row cycle frame (slot ∷ slots) number below each =
    let here = each 0 0 (omega arith) in
    ap (λ byte. byte ∷ payload_group line (payload_row_of 4080 row frame) slots cycle)
    (cycle_byte line (3808 / line) row cycle slot frame (whole_cycles line number) below here.0 here.1)
    ∙ ap (λ bytes. get_or frame (place_of 4080 row (16 + line * cycle + slot)) 0 ∷ bytes)
    (payload_group-frame line row cycle frame slots number below (λ k d h. each (suc k) d (omega arith)))

-- two lists of pieces, piece by piece
same_pieces : (f g : ℕ → List ℕ) (a n : ℕ) → ((i : ℕ) → a ≤ i → i < a + n → f i ≡ g i) → flat_map f (range_with_len a n) ≡ flat_map g (range_with_len a n)
same_pieces f g a zero same = refl
same_pieces f g a (suc n) same =
    ap (λ xs. xs ++ flat_map f (range_with_len (a + 1) n)) (same a (omega arith) (omega arith))
    ∙ ap (λ xs. g a ++ xs) (same_pieces f g (a + 1) n (λ i low high. same i (omega arith) (omega arith)))

-- those of all cycles are those of the row
pub payload_groups-frame : (line row : ℕ) (frame payload slots : List ℕ) → IsSlotNumber line → payload ≡ payload_row_of 4080 row frame → All (λ slot. (1 ≤ slot) × (slot ≤ line)) slots
    → payload_groups line payload slots (3808 / line) ≡ row_groups_of line slots row frame
unfolding payload_groups row_groups_of
payload_groups-frame line row frame payload slots number is each =
    ap (λ bytes. flat_map (payload_group line bytes slots) (range_with_len 0 (3808 / line))) is
    ∙ same_pieces (payload_group line (payload_row_of 4080 row frame) slots) (λ cycle. group_at line slots row cycle frame) 0 (3808 / line)
    (λ cycle low high. payload_group-frame line row cycle frame slots number (omega arith) each)

-- a run of all cycles
pub run_groups-row : (line : ℕ) (payload slots : List ℕ) (n : ℕ) → run_groups line payload slots 0 n ≡ payload_groups line payload slots n
unfolding run_groups payload_groups
run_groups-row line payload slots n = refl
