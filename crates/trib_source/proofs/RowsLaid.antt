-- The groups of a row, laid out of bytes of their own.
use Rattle.std.proofs.Common.{◌≡◌, ℕ, ◌+◌, ◌*◌, ◌/◌, ◌%◌, ◌-◌, ◌<◌, ◌≤◌, Bool, true, false, cond, List, length, take, drop, refl, ap, ◌∙◌, sym, subst, arith, get_or}
use Rattle.std.proofs.lemmas.Bool.{ltb-true}
use Rattle.std.proofs.lemmas.List.{ext_get_or, get_or-drop, get_or-take}
use Rattle.std.proofs.lemmas.List.FromFn.{length-map-range_with_len, get_or-map-range_with_len}
use Rattle.std.proofs.Math.Nat.{div-add-mod, div-eq_of_lt, div-lt_iff_lt-mul, mod-eq_of_lt, mul-add-div, mul-add-mod_self_left, mul_comm, mul-le-mul_left}
use Rattle.gmp_rule.specs.DataRule.{IsData, is_data_at, data_count}
use Rattle.odtu_columns.specs.Put.{slot_place, SlotWasPut}
use Rattle.trib_source.specs.Steps.Rows.{data_bytes, byte_laid, groups_laid, RowsWerePut}
use Rattle.trib_source.proofs.Laid.{bytes_grow}
use Rattle.trib_source.proofs.RowsPut.{bytes_inside, group_byte, taken_is}

pub length-groups_laid : (m c a cycles : ℕ) (fresh : List ℕ) → length (groups_laid m c a fresh cycles) ≡ m * cycles
unfolding groups_laid
length-groups_laid m c a cycles fresh = length-map-range_with_len (λ n. byte_laid m c a fresh (n / m) (n % m)) 0 (m * cycles)

-- a byte of a group
pub byte_of_group : (m c a cycles x i : ℕ) (fresh : List ℕ) → x < cycles → i < m → get_or (groups_laid m c a fresh cycles) (m * x + i) 0 ≡ byte_laid m c a fresh x i
unfolding groups_laid
byte_of_group m c a cycles x i fresh l h =
    let some : 0 < m = omega arith in
    let quotient : (m * x + i) / m ≡ x = mul-add-div some x i ∙ ap (λ k. x + k) (div-eq_of_lt h) ∙ omega arith in
    let rest : (m * x + i) % m ≡ i = mul-add-mod_self_left m x i ∙ mod-eq_of_lt h in
    get_or-map-range_with_len (λ n. byte_laid m c a fresh (n / m) (n % m)) 0 (m * cycles) (m * x + i) (m * x + i) 0 (group_byte m cycles x i l h) (omega arith)
    ∙ ap (λ k. byte_laid m c a fresh k ((m * x + i) % m)) quotient
    ∙ ap (λ k. byte_laid m c a fresh x k) rest

-- bytes that are those of the groups are all of them
pub laid_all : (m c a cycles : ℕ) (fresh into : List ℕ) → 1 ≤ m → length into ≡ m * cycles
    → ((x i : ℕ) → x < cycles → i < m → get_or into (m * x + i) 0 ≡ byte_laid m c a fresh x i) → into ≡ groups_laid m c a fresh cycles
laid_all m c a cycles fresh into some size each =
    ext_get_or 0 into (groups_laid m c a fresh cycles) (size ∙ sym (length-groups_laid m c a cycles fresh)) (λ n h. one n (subst (λ k. n < k) size h))
  where
    one : (n : ℕ) → n < m * cycles → get_or into n 0 ≡ get_or (groups_laid m c a fresh cycles) n 0
    one n h =
        let x = n / m in
        let i = n % m in
        let positive : 0 < m = omega arith in
        let split : m * x + i ≡ n = div-add-mod n m in
        let below : i < m = omega arith in
        let inside : x < cycles = (div-lt_iff_lt-mul positive).1 (let e : n < cycles * m = (let f = mul_comm cycles m in omega arith) in e) in
        sym (ap (λ k. get_or into k 0) split)
        ∙ each x i inside below
        ∙ sym (byte_of_group m c a cycles x i fresh inside below)
        ∙ ap (λ k. get_or (groups_laid m c a fresh cycles) k 0) split

-- ---- the rows of a frame

-- where the bytes of a row end
pub row_end : (m c a w r more at : ℕ) → at ≡ data_bytes m c a (w * r) → more + data_count c (a + w * r) ≡ data_count c (a + w * r + w) → at + m * more ≡ data_bytes m c a (w * (r + 1))
row_end m c a w r more at at_is count =
    let taken = taken_is m c (a + w * r) w more count in
    let one = bytes_grow m c a (w * r) in
    let two = bytes_grow m c (a + w * r) w in
    let last : m * data_count c (a + w * (r + 1)) ≡ m * data_count c (a + w * r + w) = ap (λ k. m * data_count c k) (let e : a + w * (r + 1) ≡ a + w * r + w = omega arith in e) in
    omega arith

-- which is within the frame
pub row_within : (m c a w row : ℕ) → row ≤ 4 → data_bytes m c a (w * row) ≤ data_bytes m c a (4 * w)
row_within m c a w row high =
    let wide : w * row ≤ w * 4 = mul-le-mul_left w high in
    let one = bytes_grow m c a (w * row) in
    let more = bytes_grow m c (a + w * row) (4 * w - w * row) in
    let last : m * data_count c (a + w * row + (4 * w - w * row)) ≡ m * data_count c (a + 4 * w) = ap (λ k. m * data_count c k) (let e : a + w * row + (4 * w - w * row) ≡ a + 4 * w = omega arith in e) in
    omega arith

-- a byte that is laid out for a row is that of the frame
pub row_byte : (m c a w r more at next x i : ℕ) (fresh : List ℕ) → at ≡ data_bytes m c a (w * r) → next ≡ at + m * more → more + data_count c (a + w * r) ≡ data_count c (a + w * r + w) → x < w → i < m
    → byte_laid m c (a + w * r) (take (next - at) (drop at fresh)) x i ≡ byte_laid m c a fresh (w * r + x) i
row_byte m c a w r more at next x i fresh at_is next_is count l h =
    go (is_data_at c (a + w * r + x + 1)) refl
    ∙ ap (λ k. cond (is_data_at c k) (get_or fresh (data_bytes m c a (w * r + x) + i) 0) 0) (let e : a + w * r + x + 1 ≡ a + (w * r + x) + 1 = omega arith in e)
  where
    go : (t : Bool) → is_data_at c (a + w * r + x + 1) ≡ t
        → cond t (get_or (take (next - at) (drop at fresh)) (data_bytes m c (a + w * r) x + i) 0) 0 ≡ cond t (get_or fresh (data_bytes m c a (w * r + x) + i) 0) 0
    go false e = refl
    go true e =
        let is_data : IsData c (a + w * r + x + 1) = ltb-true (((a + w * r + x + 1) * c) % 15232) c e in
        let inside = bytes_inside m c (a + w * r) x w i l h is_data in
        let taken = taken_is m c (a + w * r) w more count in
        let one = bytes_grow m c a (w * r) in
        let two = bytes_grow m c (a + w * r) x in
        let last : m * data_count c (a + (w * r + x)) ≡ m * data_count c (a + w * r + x) = ap (λ k. m * data_count c k) (let e : a + (w * r + x) ≡ a + w * r + x = omega arith in e) in
        get_or-take (next - at) (drop at fresh) (data_bytes m c (a + w * r) x + i) 0 (let k : data_bytes m c (a + w * r) x + i < next - at = omega (arith, inside, taken, next_is) in k)
        ∙ get_or-drop at fresh (data_bytes m c (a + w * r) x + i) 0
        ∙ ap (λ k. get_or fresh k 0) (let e : at + (data_bytes m c (a + w * r) x + i) ≡ data_bytes m c a (w * r + x) + i = omega (arith, at_is, one, two, last) in e)

-- The bytes of a row among those of a frame.
pub record RowSlice (m c a w row more at long : ℕ) : Type 0 where
  pub at_is : at ≡ data_bytes m c a (w * (row - 1))
  pub ends : at + m * more ≡ data_bytes m c a (w * row)
  pub within : at + m * more ≤ long
  pub taken : m * more ≡ data_bytes m c (a + w * (row - 1)) w

pub row_slice : (m c a w cycles row more at long : ℕ) → w ≡ cycles → 1 ≤ row → row ≤ 4 → at ≡ data_bytes m c a (cycles * (row - 1)) → more + data_count c (a + w * (row - 1)) ≡ data_count c (a + w * (row - 1) + w)
    → long ≡ data_bytes m c a (4 * cycles) → RowSlice m c a w row more at long
row_slice m c a w cycles row more at long same low high at_was count long_is =
    let at_is : at ≡ data_bytes m c a (w * (row - 1)) = at_was ∙ sym (ap (λ k. data_bytes m c a (k * (row - 1))) same) in
    let all : long ≡ data_bytes m c a (4 * w) = long_is ∙ sym (ap (λ k. data_bytes m c a (4 * k)) same) in
    let ends : at + m * more ≡ data_bytes m c a (w * row) =
    row_end m c a w (row - 1) more at at_is count ∙ ap (λ k. data_bytes m c a (w * k)) (let e : row - 1 + 1 ≡ row = omega arith in e) in
    let inside = row_within m c a w row high in
    record {
      at_is = at_is;
      ends = ends;
      within = omega (arith, ends, inside, all);
      taken = taken_is m c (a + w * (row - 1)) w more count;
    }

-- ---- one slot of an OTU2

-- what was put of a slot are its groups in all rows
pub slot_put : (slots laid fresh before now : List ℕ) (c a : ℕ) → length slots ≡ 1 → laid ≡ groups_laid 1 c a fresh 1904 → SlotWasPut slots laid before now → RowsWerePut 8 slots (byte_laid 1 c a fresh) 4 before now
slot_put slots laid fresh before now c a one is h = record {
  put = λ row cycle i low high l inside.
      let first : i ≡ 0 = omega (arith, inside, one) in
      let x = 476 * (row - 1) + cycle in
      ap (λ k. get_or now (slot_place 8 slots row cycle k) 0) first
      ∙ h.put row cycle low high l
      ∙ ap (λ xs. get_or xs x 0) is
      ∙ ap (λ n. get_or (groups_laid 1 c a fresh 1904) n 0) (let e : x ≡ 1 * x + 0 = omega arith in e)
      ∙ byte_of_group 1 c a 1904 x 0 fresh (omega arith) (omega arith)
      ∙ ap (λ k. byte_laid 1 c a fresh x k) (sym first);
  kept = λ place none. h.kept place (λ row cycle low high l e. none row cycle 0 low high l (omega (arith, one)) e);
}
