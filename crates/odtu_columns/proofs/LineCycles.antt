-- The cycles of a line's slots in the payload of a row.
use Rattle.std.proofs.Common.{◌≡◌, inl, inr, ℕ, ◌+◌, ◌-◌, ◌*◌, ◌/◌, ◌%◌, ◌<◌, ◌≤◌, ap, sym, subst, refl, arith}
use Rattle.std.proofs.Math.Nat.{mul-le-mul_left, mul_comm, div-lt_iff_lt-mul}
use Rattle.otn_base.specs.LineSlots.{slots_of, IsSlotNumber}
use Rattle.otn_base.specs.declared.line_kind.LineKind.{LineKind}
use Rattle.otn_base.specs.declared.line_kind.LineKind.TheVariants.{Otu2, Otu3}

-- the cycles are the whole payload of a row
pub whole_cycles : (line : ℕ) → IsSlotNumber line → line * (3808 / line) ≡ 3808
whole_cycles line (inl e) = ap (λ s. s * (3808 / s)) e
whole_cycles line (inr e) = ap (λ s. s * (3808 / s)) e

pub some_slots : (line : ℕ) → IsSlotNumber line → 0 < line
some_slots line (inl e) = omega arith
some_slots line (inr e) = omega arith

-- a column of a cycle
pub column_inside : (line n cycle k : ℕ) → line * n ≡ 3808 → cycle < n → k < line → line * cycle + k < 3808
column_inside line n cycle k all below inside =
    let wide : line * (cycle + 1) ≤ line * n = mul-le-mul_left line (let e : cycle + 1 ≤ n = omega arith in e) in
    omega arith

-- the cycle of a column
pub cycle_inside : (line n i : ℕ) → 0 < line → line * n ≡ 3808 → i < 3808 → i / line < n
cycle_inside line n i some all h = (div-lt_iff_lt-mul some).1 (let e : i < n * line = (let f = mul_comm n line in omega arith) in e)

-- the row of a group of a frame
pub group_row : (line g : ℕ) → IsSlotNumber line → g ≤ 15232 / line → 1 ≤ g → (g - 1) / (3808 / line) + 1 ≤ 4
group_row line g (inl e) high low =
    let h : g ≤ 1904 = subst (λ s. g ≤ 15232 / s) e high in
    let r : (g - 1) / 476 + 1 ≤ 4 = omega arith in
    subst (λ s. (g - 1) / (3808 / s) + 1 ≤ 4) (sym e) r
group_row line g (inr e) high low =
    let h : g ≤ 476 = subst (λ s. g ≤ 15232 / s) e high in
    let r : (g - 1) / 119 + 1 ≤ 4 = omega arith in
    subst (λ s. (g - 1) / (3808 / s) + 1 ≤ 4) (sym e) r

-- its cycle in the row
pub group_cycle : (line g : ℕ) → IsSlotNumber line → (g - 1) % (3808 / line) < 3808 / line
group_cycle line g (inl e) =
    let r : (g - 1) % 476 < 476 = omega arith in
    subst (λ s. (g - 1) % (3808 / s) < 3808 / s) (sym e) r
group_cycle line g (inr e) =
    let r : (g - 1) % 119 < 119 = omega arith in
    subst (λ s. (g - 1) % (3808 / s) < 3808 / s) (sym e) r

-- how many slots a line of a kind has
pub number_of : (kind : LineKind) → IsSlotNumber (slots_of kind)
number_of Otu2 = inl refl
number_of Otu3 = inr refl
