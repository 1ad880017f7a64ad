-- Counts modulo m of bytes that came, that are skipped and that are given on.
use Rattle.std.proofs.Common.{◌≡◌, ℕ, ◌+◌, ◌*◌, ◌/◌, ◌%◌, ◌-◌, ◌<◌, ◌≤◌, min, inl, inr, ap, sym, ◌∙◌, arith}
use Rattle.std.proofs.lemmas.Bool.Decides.{leb_tells}
use Rattle.std.proofs.lemmas.Nat.{le-div}
use Rattle.std.proofs.Math.Nat.{mod-add-mod, add-mod-mod, add-mod_right, mod-eq_of_lt, mod-lt, mod-eq-sub-mod, div-eq_of_lt, div-mul-le_self, mul-add-div, div-add-mod}

-- a count that is kept modulo m goes on as the whole one does
pub added_is : (count bytes m : ℕ) → (count % m + bytes) % m ≡ (count + bytes) % m
added_is count bytes m = mod-add-mod count m bytes

-- what was given on is as much as what came with what is still to be skipped: so it stays
pub still_aligned : (m emitted skip due bytes : ℕ) → due % m ≡ (emitted + skip) % m
    → (due + (bytes - min skip bytes)) % m ≡ (emitted + bytes + (skip - min skip bytes)) % m
still_aligned m emitted skip due bytes e =
    let turned : emitted + skip + (bytes - min skip bytes) ≡ emitted + bytes + (skip - min skip bytes) = omega arith in
    sym (mod-add-mod due m (bytes - min skip bytes))
    ∙ ap (λ x. (x + (bytes - min skip bytes)) % m) e
    ∙ mod-add-mod (emitted + skip) m (bytes - min skip bytes)
    ∙ ap (λ x. x % m) turned

-- and so it is from a switch on
pub aligned_at_switch : (m emitted due : ℕ) → 0 < m → due % m ≡ (emitted + (due + (m - emitted % m)) % m) % m
aligned_at_switch m emitted due pos =
    let low : emitted % m < m = mod-lt emitted pos in
    let whole : emitted % m + (due + (m - emitted % m)) ≡ due + m = omega arith in
    sym (
    add-mod-mod emitted (due + (m - emitted % m)) m
    ∙ sym (mod-add-mod emitted m (due + (m - emitted % m)))
    ∙ ap (λ x. x % m) whole
    ∙ add-mod_right due m
    )

-- a sum of numbers below m, modulo m
small_sum : (m a b g : ℕ) → a < m → b < m → g ≡ (a + b) % m → g ≤ a + b
small_sum m a b g la lb e = elim (leb_tells m (a + b)) [
  | inl over ↦
      let back : (a + b) % m ≡ (a + b - m) % m = mod-eq-sub-mod over.1 in
      let low : (a + b - m) % m ≡ a + b - m = mod-eq_of_lt (let f : a + b - m < m = omega arith in f) in
      omega arith
  | inr below ↦
      let same : (a + b) % m ≡ a + b = mod-eq_of_lt (let f : a + b < m = (let u = below.1 in omega arith) in f) in
      omega arith
]

-- more bytes have no fewer groups
quotients : (m x y : ℕ) → 0 < m → x ≤ y → x / m ≤ y / m
quotients m x y pos h = let whole : x / m * m ≤ x = div-mul-le_self x m in le-div (x / m) y m pos (omega arith)

-- what is given on completes no more groups than what came
pub no_more_groups : (m emitted skip due bytes : ℕ) → emitted < m → skip < m → due < m → due ≡ (emitted + skip) % m
    → (due + (bytes - min skip bytes)) / m ≤ (emitted + bytes) / m
no_more_groups m emitted skip due bytes lc ls lg e = elim (leb_tells bytes skip) [
  | inl few ↦
      let none : (due + (bytes - min skip bytes)) / m ≡ 0 = div-eq_of_lt (let u = few.1 in let f : due + (bytes - min skip bytes) < m = omega arith in f) in
      omega arith
  | inr more ↦
      let u = more.1 in
      let small = small_sum m emitted skip due lc ls e in
      let less : due + (bytes - min skip bytes) ≤ emitted + bytes = omega arith in
      quotients m _ _ (let f : 0 < m = omega arith in f) less
]

-- whole groups of a sum
groups_of_sum : (m x y : ℕ) → 0 < m → (x + y) / m ≡ x / m + (x % m + y) / m
groups_of_sum m x y pos =
    let split : m * (x / m) + x % m ≡ x = div-add-mod x m in
    let whole : x + y ≡ m * (x / m) + (x % m + y) = omega arith in
    ap (λ z. z / m) whole ∙ mul-add-div pos (x / m) (x % m + y)

-- the same of totals
pub no_more_in_total : (m emitted skip due bytes most : ℕ) → 0 < m → skip < m → due % m ≡ (emitted + skip) % m → (emitted + bytes) / m ≤ emitted / m + most
    → (due + (bytes - min skip bytes)) / m ≤ due / m + most
no_more_in_total m emitted skip due bytes most pos ls e fits =
    let one = groups_of_sum m emitted bytes pos in
    let two = groups_of_sum m due (bytes - min skip bytes) pos in
    let less = no_more_groups m (emitted % m) skip (due % m) bytes (mod-lt emitted pos) ls (mod-lt due pos) (e ∙ sym (mod-add-mod emitted m skip)) in
    omega arith
