-- A turn completes at most 15,232 groups of a sink's bytes, and a multiframe of eight frames gives a whole view.
use Rattle.std.proofs.Common.{◌≡◌, ℕ, ◌+◌, ◌*◌, ◌/◌, ◌-◌, ◌<◌, ◌≤◌, List, [], ◌∷◌, length, Option, refl, ap, sym, subst, arith}
use Rattle.std.proofs.Math.Nat.{mul-add-div, div-lt_iff_lt-mul}
use Rattle.tributary_model.specs.Places.{Tributary, View, AreWholeTurns}
use Rattle.tributary_model.specs.Stretches.{any_marked, next_part, course}
use Rattle.tributary_model.specs.Emission.{emission, emitted_so_far}
use Rattle.tributary_model.specs.Laws.{EmitsAtMost, CompletesAtMost}
use Rattle.tributary_model.proofs.Law.{emitted_in, turn_after, course_next, few_bytes}

pub total_next : (own : Tributary) (ais : ℕ → ℕ) (past : List (Option View)) (view : Option View)
    → emitted_so_far own ais (view ∷ past) ≡ emitted_so_far own ais past + length (emission own ais past view)
unfolding emitted_so_far
total_next own ais past view = refl

pub total_start : (own : Tributary) (ais : ℕ → ℕ) → emitted_so_far own ais [] ≡ 0
unfolding emitted_so_far
total_start own ais = refl

course_start : (own : Tributary) → emitted_in (length own.slots) (course own []) ≡ 0
unfolding course
course_start own = refl

left_next : (own : Tributary) (past : List (Option View)) (view : Option View)
    → emitted_in (length own.slots) (next_part own (any_marked own (view ∷ past)) view (course own past) ∷ course own past) ≡ emitted_in (length own.slots) (course own (view ∷ past))
left_next own past view = ap (emitted_in (length own.slots)) (sym (course_next own past view))

-- whole groups and what the stretch that goes on has emitted so far
total_is : (own : Tributary) (ais : ℕ → ℕ) (past : List (Option View)) → 0 < length own.slots → AreWholeTurns (length own.slots) past
    → (q : ℕ) × (emitted_so_far own ais past ≡ length own.slots * q + emitted_in (length own.slots) (course own past))
total_is own ais [] h whole = (0, (let a = total_start own ais in let b = course_start own in omega arith))
total_is own ais (view ∷ past) h whole =
    let before = total_is own ais past h whole.1 in
    let turn = (turn_after own ais past view h whole).groups in
    let m = length own.slots in
    let next = total_next own ais past view in
    let left = left_next own past view in
    let old = before.1 in
    let new = turn.1.0 in
    let both : m * (before.0 + turn.0) ≡ m * before.0 + m * turn.0 = omega arith in (
      before.0 + turn.0,
      omega arith,
    )

-- with q whole groups before, a turn that stays below another 15,233 completes at most 15,232
few_more : (m q e n : ℕ) → 0 < m → e + n < m * (e / m + 15232) + m → (m * q + (e + n)) / m ≤ (m * q + e) / m + 15232
few_more m q e n h less =
    let now : (m * q + (e + n)) / m ≡ q + (e + n) / m = mul-add-div h q (e + n) in
    let before : (m * q + e) / m ≡ q + e / m = mul-add-div h q e in
    let wide : e + n < (e / m + 15232 + 1) * m = (let turn : (e / m + 15232 + 1) * m ≡ m * (e / m + 15232) + m = omega arith in omega arith) in
    let below : (e + n) / m < e / m + 15232 + 1 = (div-lt_iff_lt-mul h).1 wide in
    omega arith

-- At most 15,232 groups are completed in a turn.
pub few_groups : (own : Tributary) (ais : ℕ → ℕ) (past : List (Option View)) (view : Option View) → 0 < length own.slots → AreWholeTurns (length own.slots) (view ∷ past)
    → emitted_so_far own ais (view ∷ past) / length own.slots ≤ emitted_so_far own ais past / length own.slots + 15232
few_groups own ais past view h whole =
    let m = length own.slots in
    let before = total_is own ais past h whole.1 in
    let turn = (turn_after own ais past view h whole).groups in
    let e = emitted_in m (course own past) in
    let n = length (emission own ais past view) in
    let bound = few_more m before.0 e n h turn.1.1 in
    let total : emitted_so_far own ais (view ∷ past) ≡ m * before.0 + (e + n) = (let next = total_next own ais past view in let old = before.1 in omega arith) in
    subst (λ x. x / m ≤ emitted_so_far own ais past / m + 15232) (sym total) (subst (λ x. (m * before.0 + (e + n)) / m ≤ x / m + 15232) (sym before.1) bound)

-- the laws as they are stated of m slots
pub emits_at_most : (m : ℕ) → 1 ≤ m → EmitsAtMost m (m * 15232 + m - 1)
emits_at_most m h own ais past view e whole =
    let few = few_bytes own ais past view (omega arith) (subst (λ n. AreWholeTurns n (view ∷ past)) (sym e) whole) in
    let many : length own.slots * 15232 ≡ m * 15232 = ap (λ n. n * 15232) e in
    omega arith

pub completes_at_most : (m : ℕ) → 1 ≤ m → CompletesAtMost m 15232
completes_at_most m h own ais past view e whole =
    let few = few_groups own ais past view (omega arith) (subst (λ n. AreWholeTurns n (view ∷ past)) (sym e) whole) in
    subst (λ n. emitted_so_far own ais (view ∷ past) / n ≤ emitted_so_far own ais past / n + 15232) e few
