-- Where the bytes of tributary slots stand.
use Rattle.std.proofs.Common.{◌≡◌, ℕ, ◌+◌, ◌-◌, ◌*◌, ◌/◌, ◌<◌, ◌≤◌, ◌⊎◌, inl, inr, List, get_or, ap, ◌∙◌, arith}
use Rattle.lane_kernels.specs.SlotPlaces.{IsSlotCount}

pub slot_inside : (slots slot : ℕ) → IsSlotCount slots → 1 ≤ slot → slot ≤ slots
    → (3808 / slots * (slot - 1) + 3808 / slots ≤ 3808) × (3808 / slots ≤ 3808) × (1 ≤ slots)
slot_inside slots slot (inl e) low high =
    let n : 3808 / slots ≡ 476 = ap (λ s. 3808 / s) e in
    let p : 3808 / slots * (slot - 1) ≡ 476 * (slot - 1) = ap (λ n. n * (slot - 1)) n in
    (omega arith, omega arith, omega arith)
slot_inside slots slot (inr e) low high =
    let n : 3808 / slots ≡ 119 = ap (λ s. 3808 / s) e in
    let p : 3808 / slots * (slot - 1) ≡ 119 * (slot - 1) = ap (λ n. n * (slot - 1)) n in
    (omega arith, omega arith, omega arith)

order : (i j : ℕ) → (i ≤ j) ⊎ (j < i)
order i j = grind arith

-- eight slots more of 32
pub apart_more : (row into new : List ℕ) (quarter : ℕ)
    → ((k j : ℕ) → k < 8 * quarter → j < 119 → get_or into (119 * k + j) 0 ≡ get_or row (32 * j + k) 0)
    → ((k j : ℕ) → k < 8 → j < 119 → get_or new (952 * quarter + 119 * k + j) 0 ≡ get_or row (8 * quarter + 32 * j + k) 0)
    → ((n : ℕ) → ((b : ℕ) → b < 8 → (n < 952 * quarter + 119 * b) ⊎ (952 * quarter + 119 * b + 119 ≤ n)) → get_or new n 0 ≡ get_or into n 0)
    → (k j : ℕ) → k < 8 * (quarter + 1) → j < 119 → get_or new (119 * k + j) 0 ≡ get_or row (32 * j + k) 0
apart_more row into new quarter before here others k j lk lj = go (order (8 * quarter) k)
  where
    go : (8 * quarter ≤ k) ⊎ (k < 8 * quarter) → get_or new (119 * k + j) 0 ≡ get_or row (32 * j + k) 0
    go (inl h) =
        ap (λ n. get_or new n 0) (let e : 119 * k + j ≡ 952 * quarter + 119 * (k - 8 * quarter) + j = omega arith in e)
        ∙ here (k - 8 * quarter) j (omega arith) lj
        ∙ ap (λ n. get_or row n 0) (let e : 8 * quarter + 32 * j + (k - 8 * quarter) ≡ 32 * j + k = omega arith in e)
    go (inr h) = others (119 * k + j) (λ b lb. inl (omega arith)) ∙ before k j h lj

pub together_more : (lists into new : List ℕ) (quarter : ℕ)
    → ((k j : ℕ) → k < 8 * quarter → j < 119 → get_or into (32 * j + k) 0 ≡ get_or lists (119 * k + j) 0)
    → ((k j : ℕ) → k < 8 → j < 119 → get_or new (8 * quarter + 32 * j + k) 0 ≡ get_or lists (952 * quarter + 119 * k + j) 0)
    → ((n : ℕ) → ((j : ℕ) → j < 119 → (n < 8 * quarter + 32 * j) ⊎ (8 * quarter + 32 * j + 8 ≤ n)) → get_or new n 0 ≡ get_or into n 0)
    → quarter < 4 → (k j : ℕ) → k < 8 * (quarter + 1) → j < 119 → get_or new (32 * j + k) 0 ≡ get_or lists (119 * k + j) 0
together_more lists into new quarter before here others few k j lk lj = go (order (8 * quarter) k)
  where
    go : (8 * quarter ≤ k) ⊎ (k < 8 * quarter) → get_or new (32 * j + k) 0 ≡ get_or lists (119 * k + j) 0
    go (inl h) =
        ap (λ n. get_or new n 0) (let e : 32 * j + k ≡ 8 * quarter + 32 * j + (k - 8 * quarter) = omega arith in e)
        ∙ here (k - 8 * quarter) j (omega arith) lj
        ∙ ap (λ n. get_or lists n 0) (let e : 952 * quarter + 119 * (k - 8 * quarter) + j ≡ 119 * k + j = omega arith in e)
    go (inr h) = others (32 * j + k) (λ i li. clear i (order j i)) ∙ before k j h lj
      where
        clear : (i : ℕ) → (j ≤ i) ⊎ (i < j) → (32 * j + k < 8 * quarter + 32 * i) ⊎ (8 * quarter + 32 * i + 8 ≤ 32 * j + k)
        clear i (inl le) = inl (omega arith)
        clear i (inr lt) = inr (omega arith)
