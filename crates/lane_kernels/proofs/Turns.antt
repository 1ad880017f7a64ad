-- One block more of lists that are taken apart or put together.
use Rattle.std.proofs.Common.{◌≡◌, ℕ, ◌+◌, ◌-◌, ◌*◌, ◌<◌, ◌≤◌, ◌⊎◌, inl, inr, List, get_or, ap, subst, ◌∙◌, arith}
use Rattle.lane_kernels.proofs.Puts.{lower, no_higher}

order : (i j : ℕ) → (i ≤ j) ⊎ (j < i)
order i j = grind arith

-- so many steps are those to one place and those from it on
steps : (step from j : ℕ) → from ≤ j → step * from + step * (j - from) ≡ step * j
steps step from j h =
    let e : from + (j - from) ≡ j = omega arith in
    let f : step * (from + (j - from)) ≡ step * j = ap (λ k. step * k) e in
    omega arith

pub apart_here : (row into new : List ℕ) (first step to count wide from done : ℕ) → count ≤ wide → from ≤ done → from + 16 ≤ count
    → ((k j : ℕ) → k < 8 → j < done → j < count → get_or into (to + wide * k + j) 0 ≡ get_or row (first + step * j + k) 0)
    → ((g b : ℕ) → g < 16 → b < 8 → get_or new (to + from + wide * b + g) 0 ≡ get_or row (first + step * from + step * g + b) 0)
    → ((n : ℕ) → ((b : ℕ) → b < 8 → (n < to + from + wide * b) ⊎ (to + from + wide * b + 16 ≤ n)) → get_or new n 0 ≡ get_or into n 0)
    → (k j : ℕ) → k < 8 → j < from + 16 → j < count → get_or new (to + wide * k + j) 0 ≡ get_or row (first + step * j + k) 0
apart_here row into new first step to count wide from done within low room before here others k j lk lj inside = go (order from j)
  where
    go : (from ≤ j) ⊎ (j < from) → get_or new (to + wide * k + j) 0 ≡ get_or row (first + step * j + k) 0
    go (inl h) =
        let s = steps step from j h in
        ap (λ n. get_or new n 0) (let e : to + wide * k + j ≡ to + from + wide * k + (j - from) = omega arith in e)
        ∙ here (j - from) k (omega arith) lk
        ∙ ap (λ n. get_or row n 0) (let e : first + step * from + step * (j - from) + k ≡ first + step * j + k = omega arith in e)
    go (inr h) = others (to + wide * k + j) (λ b lb. clear b (order k b)) ∙ before k j lk (omega arith) inside
      where
        clear : (b : ℕ) → (k ≤ b) ⊎ (b < k) → (to + wide * k + j < to + from + wide * b) ⊎ (to + from + wide * b + 16 ≤ to + wide * k + j)
        clear b (inl le) = let l = no_higher wide k b le in inl (omega arith)
        clear b (inr lt) = let l = lower wide b k lt in inr (omega arith)

pub apart_others : (old into new : List ℕ) (to count wide from : ℕ) → from + 16 ≤ count
    → ((n : ℕ) → ((k : ℕ) → k < 8 → (n < to + wide * k) ⊎ (to + wide * k + count ≤ n)) → get_or into n 0 ≡ get_or old n 0)
    → ((n : ℕ) → ((b : ℕ) → b < 8 → (n < to + from + wide * b) ⊎ (to + from + wide * b + 16 ≤ n)) → get_or new n 0 ≡ get_or into n 0)
    → (n : ℕ) → ((k : ℕ) → k < 8 → (n < to + wide * k) ⊎ (to + wide * k + count ≤ n)) → get_or new n 0 ≡ get_or old n 0
apart_others old into new to count wide from room before others n none = others n (λ b lb. clear b (none b lb)) ∙ before n none
  where
    clear : (b : ℕ) → (n < to + wide * b) ⊎ (to + wide * b + count ≤ n) → (n < to + from + wide * b) ⊎ (to + from + wide * b + 16 ≤ n)
    clear b (inl l) = inl (omega arith)
    clear b (inr l) = inr (omega arith)

-- a byte that is in none of the lists, each of which has so many bytes behind the first ones of its place
pub among_other : (wide at k j b : ℕ) → j < wide → at + 476 ≤ wide → (j < at) ⊎ (at + 476 ≤ j) → (wide * k + j < at + wide * b) ⊎ (at + wide * b + 476 ≤ wide * k + j)
among_other wide at k j b low room beside = go (order b k)
  where
    go : (b ≤ k) ⊎ (k < b) → (wide * k + j < at + wide * b) ⊎ (at + wide * b + 476 ≤ wide * k + j)
    go (inr lt) = let l = lower wide k b lt in inl (omega arith)
    go (inl le) = below (order k b)
      where
        same : b ≡ k → (j < at) ⊎ (at + 476 ≤ j) → (wide * k + j < at + wide * b) ⊎ (at + wide * b + 476 ≤ wide * k + j)
        same e (inl l) = let f : wide * b ≡ wide * k = ap (λ n. wide * n) e in inl (omega arith)
        same e (inr l) = let f : wide * b ≡ wide * k = ap (λ n. wide * n) e in inr (omega arith)

        below : (k ≤ b) ⊎ (b < k) → (wide * k + j < at + wide * b) ⊎ (at + wide * b + 476 ≤ wide * k + j)
        below (inl ge) = same (let e : b ≡ k = omega arith in e) beside
        below (inr lt) = let l = lower wide b k lt in inr (omega arith)

pub together_here : (lists into new : List ℕ) (at count wide first step from done : ℕ) → 8 ≤ step → from ≤ done
    → ((k j : ℕ) → k < 8 → j < done → j < count → get_or into (first + step * j + k) 0 ≡ get_or lists (at + wide * k + j) 0)
    → ((g b : ℕ) → g < 16 → b < 8 → get_or new (first + step * from + step * g + b) 0 ≡ get_or lists (at + from + wide * b + g) 0)
    → ((n : ℕ) → ((g : ℕ) → g < 16 → (n < first + step * from + step * g) ⊎ (first + step * from + step * g + 8 ≤ n)) → get_or new n 0 ≡ get_or into n 0)
    → (k j : ℕ) → k < 8 → j < from + 16 → j < count → get_or new (first + step * j + k) 0 ≡ get_or lists (at + wide * k + j) 0
together_here lists into new at count wide first step from done apart low before here others k j lk lj inside = go (order from j)
  where
    go : (from ≤ j) ⊎ (j < from) → get_or new (first + step * j + k) 0 ≡ get_or lists (at + wide * k + j) 0
    go (inl h) =
        let s = steps step from j h in
        ap (λ n. get_or new n 0) (let e : first + step * j + k ≡ first + step * from + step * (j - from) + k = omega arith in e)
        ∙ here (j - from) k (omega arith) lk
        ∙ ap (λ n. get_or lists n 0) (let e : at + from + wide * k + (j - from) ≡ at + wide * k + j = omega arith in e)
    go (inr h) =
        others (first + step * j + k) (λ g lg.
        let l = lower step j (from + g) (omega arith) in
        inl (omega arith)) ∙ before k j lk (omega arith) inside

pub together_others : (old into new : List ℕ) (count first step from : ℕ) → from + 16 ≤ count
    → ((n : ℕ) → ((j : ℕ) → j < count → (n < first + step * j) ⊎ (first + step * j + 8 ≤ n)) → get_or into n 0 ≡ get_or old n 0)
    → ((n : ℕ) → ((g : ℕ) → g < 16 → (n < first + step * from + step * g) ⊎ (first + step * from + step * g + 8 ≤ n)) → get_or new n 0 ≡ get_or into n 0)
    → (n : ℕ) → ((j : ℕ) → j < count → (n < first + step * j) ⊎ (first + step * j + 8 ≤ n)) → get_or new n 0 ≡ get_or old n 0
together_others old into new count first step from room before others n none =
    others n (λ g lg.
    let P : ℕ → Type 0 = λ m. (n < m) ⊎ (m + 8 ≤ n) in
    subst P (let e : first + step * (from + g) ≡ first + step * from + step * g = omega arith in e) (none (from + g) (omega arith)))
    ∙ before n none
