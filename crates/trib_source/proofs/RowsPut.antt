-- The groups of a frame, row by row.
use Rattle.std.proofs.Common.{◌≡◌, ◌⊎◌, inl, inr, ℕ, ◌+◌, ◌*◌, ◌/◌, ◌%◌, ◌-◌, ◌<◌, ◌≤◌, Bool, true, false, cond, List, length, take, refl, ap, ◌∙◌, sym, subst, arith, get_or}
use Rattle.std.proofs.lemmas.Bool.{ltb-true}
use Rattle.std.proofs.lemmas.List.{get_or-take}
use Rattle.std.proofs.Math.Nat.{mul-le-mul_left}
use Rattle.otn_base.specs.SlotList.{IsSlotList}
use Rattle.gmp_rule.specs.DataRule.{IsData, is_data_at, data_count}
use Rattle.odtu_columns.specs.Put.{slot_place, RowWasPut}
use Rattle.trib_source.specs.Backlog.{BacklogView}
use Rattle.trib_source.specs.Steps.Rows.{data_bytes, byte_laid, AreEnough, RowsWerePut}
use Rattle.trib_source.proofs.Counts.{count_low, data_next}
use Rattle.trib_source.proofs.Laid.{bytes_grow}

-- ---- the rows of a frame

-- before the first row
pub no_rows : (line : ℕ) (slots : List ℕ) (byte : ℕ → ℕ → ℕ) (frame : List ℕ) → RowsWerePut line slots byte 0 frame frame
no_rows line slots byte frame = record { put = λ row cycle i low high l h. absurd (let bad : ⊥ = omega arith in bad); kept = λ place none. refl }

row_or : (row r : ℕ) → row ≤ r + 1 → (row ≤ r) ⊎ (row ≡ r + 1)
row_or row r h = grind arith

-- the last column of a cycle
pub cycle_room : (line x a : ℕ) → line * (3808 / line) ≡ 3808 → x < 3808 / line → a ≤ line → line * x + a ≤ 3808
cycle_room line x a even l h =
    let wide : line * (x + 1) ≤ line * (3808 / line) = mul-le-mul_left line (let e : x + 1 ≤ 3808 / line = omega arith in e) in
    omega arith

-- the places of two rows differ
other_row : (row r one two a b : ℕ) → 1 ≤ row → row ≤ r → one + a ≤ 3808 → two + b ≤ 3808 → 1 ≤ a → 1 ≤ b
    → 4080 * (row - 1) + (16 + one + a - 1) ≡ 4080 * (r + 1 - 1) + (16 + two + b - 1) → ⊥
other_row row r one two a b low high lx ly la lb e = omega arith

-- one row more
pub rows_more : (line : ℕ) (slots bytes before mid now : List ℕ) (byte : ℕ → ℕ → ℕ) (r : ℕ) → IsSlotList line slots → line * (3808 / line) ≡ 3808
    → RowsWerePut line slots byte r before mid → RowWasPut line slots (r + 1) bytes mid now
    → ((cycle i : ℕ) → cycle < 3808 / line → i < length slots → get_or bytes (length slots * cycle + i) 0 ≡ byte (3808 / line * r + cycle) i)
    → RowsWerePut line slots byte (r + 1) before now
rows_more line slots bytes before mid now byte r list even rows row laid = record {
  put = λ k cycle i low high l h. go k cycle i low l h (row_or k r high);
  kept = λ place none. row.kept place (λ cycle i l h. none (r + 1) cycle i (omega arith) (omega arith) l h) ∙ rows.kept place (λ k cycle i low high l h. none k cycle i low (omega arith) l h);
}
  where
    go : (k cycle i : ℕ) → 1 ≤ k → cycle < 3808 / line → i < length slots → (k ≤ r) ⊎ (k ≡ r + 1) → get_or now (slot_place line slots k cycle i) 0 ≡ byte (3808 / line * (k - 1) + cycle) i
    go k cycle i low l h (inl old) =
        row.kept (slot_place line slots k cycle i) (λ y j ly hj e.
        other_row k r (line * cycle) (line * y) (get_or slots i 0) (get_or slots j 0) low old (cycle_room line cycle (get_or slots i 0) even l (list.high i h)) (cycle_room line y (get_or slots j 0) even ly (list.high j hj)) (list.low i h) (list.low j hj) e)
        ∙ rows.put k cycle i low old l h
    go k cycle i low l h (inr same) =
        ap (λ r. get_or now (slot_place line slots r cycle i) 0) same
        ∙ row.put cycle i l h
        ∙ laid cycle i l h
        ∙ ap (λ k. byte (3808 / line * k + cycle) i) (let e : r ≡ k - 1 = omega arith in e)

-- ---- the bytes that are laid out

-- those of a data group are among them
pub bytes_inside : (m c a x w i : ℕ) → x < w → i < m → IsData c (a + x + 1) → data_bytes m c a x + i < data_bytes m c a w
bytes_inside m c a x w i l h d =
    let more : m * data_count c (a + x + 1) ≡ m * data_count c (a + x) + m = ap (λ k. m * k) (data_next c (a + x) d) ∙ omega arith in
    let most : m * data_count c (a + x + 1) ≤ m * data_count c (a + w) =
    subst (λ k. m * data_count c (a + x + 1) ≤ m * data_count c k) (let e : a + x + 1 + (w - (x + 1)) ≡ a + w = omega arith in e) (bytes_grow m c (a + x + 1) (w - (x + 1))) in
    let low = bytes_grow m c a x in
    omega arith

-- bytes that begin as those that are left lay out the same
pub front_byte : (m c a w x i : ℕ) (items fresh : List ℕ) → ((k : ℕ) → k < data_bytes m c a w → get_or fresh k 0 ≡ get_or items k 0) → x < w → i < m → byte_laid m c a fresh x i ≡ byte_laid m c a items x i
front_byte m c a w x i items fresh front l h = go (is_data_at c (a + x + 1)) refl
  where
    go : (t : Bool) → is_data_at c (a + x + 1) ≡ t → cond t (get_or fresh (data_bytes m c a x + i) 0) 0 ≡ cond t (get_or items (data_bytes m c a x + i) 0) 0
    go false e = refl
    go true e =
        let is_data : IsData c (a + x + 1) = ltb-true (((a + x + 1) * c) % 15232) c e in
        front (data_bytes m c a x + i) (bytes_inside m c a x w i l h is_data)

-- the byte of a group stands within its row
pub group_byte : (m w x i : ℕ) → x < w → i < m → m * x + i < m * w
group_byte m w x i l h =
    let wide : m * (x + 1) ≤ m * w = mul-le-mul_left m (let e : x + 1 ≤ w = omega arith in e) in
    omega arith

-- ---- what is taken for a row

pub taken_is : (m c a w more : ℕ) → more + data_count c a ≡ data_count c (a + w) → m * more ≡ data_bytes m c a w
taken_is m c a w more is =
    let wide : m * data_count c (a + w) ≡ m * more + m * data_count c a = ap (λ k. m * k) (sym is) ∙ omega arith in
    omega arith

-- the data groups that were not put have so many bytes, so they are there
pub taken_enough : (m c a w more : ℕ) (backlog : BacklogView) → more + data_count c a ≡ data_count c (a + w) → c ≤ 15232 → a + w ≤ 15232 → AreEnough m c a backlog → m * more + backlog.newest ≤ length backlog.items
taken_enough m c a w more backlog is low high enough =
    let most : m * data_count c (a + w) ≤ m * c = mul-le-mul_left m (count_low c (a + w) low high) in
    let wide : m * data_count c (a + w) ≡ m * more + m * data_count c a = ap (λ k. m * k) (sym is) ∙ omega arith in
    omega arith

-- a byte of the front of bytes that begin as the list does
pub front_is : (front items : List ℕ) (count k : ℕ) → ((i : ℕ) → i < length front → get_or front i 0 ≡ get_or items i 0) → count ≤ length front → k < count → get_or (take count front) k 0 ≡ get_or items k 0
front_is front items count k each within inside = get_or-take count front k 0 inside ∙ each k (omega (arith, within, inside))

-- ---- all rows

-- rows of the same bytes
pub rows_same : (line : ℕ) (slots before now : List ℕ) (byte other : ℕ → ℕ → ℕ) (rows : ℕ) → ((x i : ℕ) → x < rows * (3808 / line) → i < length slots → byte x i ≡ other x i)
    → RowsWerePut line slots byte rows before now → RowsWerePut line slots other rows before now
rows_same line slots before now byte other rows same put = record {
  put = λ row cycle i low high l h. put.put row cycle i low high l h ∙ same (3808 / line * (row - 1) + cycle) i (inside (3808 / line) row cycle low high l) h;
  kept = put.kept;
}
  where
    inside : (w row cycle : ℕ) → 1 ≤ row → row ≤ rows → cycle < w → w * (row - 1) + cycle < rows * w
    inside w row cycle low high l =
        let wide : w * (row - 1 + 1) ≤ w * rows = mul-le-mul_left w (let e : row - 1 + 1 ≤ rows = omega arith in e) in
        omega arith
