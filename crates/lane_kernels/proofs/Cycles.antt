-- The bytes of several slots of a row, cycle by cycle.
use Rattle.std.proofs.Common.{◌≡◌, ℕ, ◌+◌, ◌-◌, ◌*◌, ◌/◌, ◌<◌, ◌≤◌, ◌⊎◌, inl, inr, List, length, get_or, refl, ap, sym, ◌∙◌, arith, w8}
use Rattle.std.proofs.lemmas.Simd.{Each1-get_or, SwzOk-from_below, get_or-swz_l_below, length-swz_l, get_or-chunk, get_or-put_chunk_below, get_or-put_chunk_at}
use Rattle.std.specs.Simd.Lanes.{Each1, chunk, put_chunk}
use borrow.Rule.Simd.Moves.{SwzOk, swz_l}
use Rattle.lane_kernels.proofs.Puts.{lower, no_higher}

order : (i j : ℕ) → (i ≤ j) ⊎ (j < i)
order i j = grind arith

pub lanes_fit : (lanes : List ℕ) → length lanes ≡ 16 → Each1 (λ i. i < 16) lanes → SwzOk w8 16 16 0 lanes
lanes_fit lanes long low = SwzOk-from_below w8 16 1 16 0 lanes refl (omega arith) low

pub pair_below : (row into lanes : List ℕ) (at to n : ℕ) → n < to → get_or (put_chunk to into (swz_l w8 16 (chunk at 16 row) 0 lanes)) n 0 ≡ get_or into n 0
pair_below row into lanes at to n h = get_or-put_chunk_below to into (swz_l w8 16 (chunk at 16 row) 0 lanes) n 0 h

pub pair_here : (row into lanes : List ℕ) (at to : ℕ) → to + 16 ≤ length into → length lanes ≡ 16 → Each1 (λ i. i < 16) lanes
    → (i : ℕ) → i < 16 → get_or (put_chunk to into (swz_l w8 16 (chunk at 16 row) 0 lanes)) (to + i) 0 ≡ get_or row (at + get_or lanes i 0) 0
pair_here row into lanes at to room long low i h =
    let v = swz_l w8 16 (chunk at 16 row) 0 lanes in
    let many : length v ≡ 16 = length-swz_l w8 16 (chunk at 16 row) 0 lanes ∙ long in
    let lane : get_or lanes i 0 < 16 = Each1-get_or (λ i. i < 16) lanes i 0 (omega arith) low in
    get_or-put_chunk_at to into v i 0 (omega arith) (omega arith)
    ∙ get_or-swz_l_below w8 16 (chunk at 16 row) 0 lanes i (omega arith) lane
    ∙ ap (λ n. get_or (chunk at 16 row) n 0) (let e : 16 * ((0 + i) / 16) + get_or lanes i 0 ≡ get_or lanes i 0 = omega arith in e)
    ∙ get_or-chunk at 16 row (get_or lanes i 0) 0 lane

-- two cycles more
pub pair_more : (row slots into new lanes : List ℕ) (pair : ℕ) → length slots ≤ 8
    → ((p : ℕ) → p < length slots → get_or lanes p 0 ≡ get_or slots p 0 - 1)
    → ((p : ℕ) → p < length slots → get_or lanes (length slots + p) 0 ≡ 8 + (get_or slots p 0 - 1))
    → ((j p : ℕ) → j < 2 * pair → p < length slots → get_or into (length slots * j + p) 0 ≡ get_or row (8 * j + (get_or slots p 0 - 1)) 0)
    → ((n : ℕ) → n < 2 * length slots * pair → get_or new n 0 ≡ get_or into n 0)
    → ((i : ℕ) → i < 16 → get_or new (2 * length slots * pair + i) 0 ≡ get_or row (16 * pair + get_or lanes i 0) 0)
    → (j p : ℕ) → j < 2 * (pair + 1) → p < length slots → get_or new (length slots * j + p) 0 ≡ get_or row (8 * j + (get_or slots p 0 - 1)) 0
pair_more row slots into new lanes pair few first second before below here j p lj lp = go (order (2 * pair) j)
  where
    second_cycle : (2 * pair + 1 ≤ j) ⊎ (j < 2 * pair + 1) → 2 * pair ≤ j → get_or new (length slots * j + p) 0 ≡ get_or row (8 * j + (get_or slots p 0 - 1)) 0
    second_cycle (inl l) low =
        let e : j ≡ 2 * pair + 1 = omega arith in
        let f : length slots * j ≡ length slots * (2 * pair + 1) = ap (λ k. length slots * k) e in
        ap (λ n. get_or new n 0) (let q : length slots * j + p ≡ 2 * length slots * pair + (length slots + p) = omega arith in q)
        ∙ here (length slots + p) (omega arith)
        ∙ ap (λ n. get_or row (16 * pair + n) 0) (second p lp)
        ∙ ap (λ n. get_or row n 0) (let q : 16 * pair + (8 + (get_or slots p 0 - 1)) ≡ 8 * j + (get_or slots p 0 - 1) = omega arith in q)
    second_cycle (inr l) low =
        let e : j ≡ 2 * pair = omega arith in
        let f : length slots * j ≡ length slots * (2 * pair) = ap (λ k. length slots * k) e in
        ap (λ n. get_or new n 0) (let q : length slots * j + p ≡ 2 * length slots * pair + p = omega arith in q)
        ∙ here p (omega arith)
        ∙ ap (λ n. get_or row (16 * pair + n) 0) (first p lp)
        ∙ ap (λ n. get_or row n 0) (let q : 16 * pair + (get_or slots p 0 - 1) ≡ 8 * j + (get_or slots p 0 - 1) = omega arith in q)

    go : (2 * pair ≤ j) ⊎ (j < 2 * pair) → get_or new (length slots * j + p) 0 ≡ get_or row (8 * j + (get_or slots p 0 - 1)) 0
    go (inl l) = second_cycle (order (2 * pair + 1) j) l
    go (inr l) =
        let s = lower (length slots) j (2 * pair) l in
        below (length slots * j + p) (omega arith) ∙ before j p l lp

-- a cycle more
pub cycle_more : (row slots into new : List ℕ) (line from cycle : ℕ)
    → ((j p : ℕ) → from ≤ j → j < cycle → p < length slots → get_or into (length slots * j + p) 0 ≡ get_or row (line * j + (get_or slots p 0 - 1)) 0)
    → ((n : ℕ) → n < length slots * cycle → get_or new n 0 ≡ get_or into n 0)
    → ((p : ℕ) → p < length slots → get_or new (length slots * cycle + p) 0 ≡ get_or row (line * cycle + (get_or slots p 0 - 1)) 0)
    → (j p : ℕ) → from ≤ j → j < cycle + 1 → p < length slots → get_or new (length slots * j + p) 0 ≡ get_or row (line * j + (get_or slots p 0 - 1)) 0
cycle_more row slots into new line from cycle before below here j p low lj lp = go (order cycle j)
  where
    go : (cycle ≤ j) ⊎ (j < cycle) → get_or new (length slots * j + p) 0 ≡ get_or row (line * j + (get_or slots p 0 - 1)) 0
    go (inl l) =
        let e : j ≡ cycle = omega arith in
        ap (λ i. get_or new (length slots * i + p) 0) e ∙ here p lp ∙ ap (λ i. get_or row (line * i + (get_or slots p 0 - 1)) 0) (let f : cycle ≡ j = omega arith in f)
    go (inr l) =
        let s = lower (length slots) j cycle l in
        below (length slots * j + p) (omega arith) ∙ before j p low l lp

pub front_stays : (old into new : List ℕ) (m from cycle : ℕ) → from ≤ cycle → ((n : ℕ) → n < m * from → get_or into n 0 ≡ get_or old n 0) → ((n : ℕ) → n < m * cycle → get_or new n 0 ≡ get_or into n 0)
    → (n : ℕ) → n < m * from → get_or new n 0 ≡ get_or old n 0
front_stays old into new m from cycle low before below n l = let s = no_higher m from cycle low in below n (omega arith) ∙ before n l

-- the first cycles, and the others
pub all_cycles : (row slots mid new : List ℕ) (line done : ℕ)
    → ((j p : ℕ) → j < done → p < length slots → get_or mid (length slots * j + p) 0 ≡ get_or row (line * j + (get_or slots p 0 - 1)) 0)
    → ((n : ℕ) → n < length slots * done → get_or new n 0 ≡ get_or mid n 0)
    → (cycles : ℕ) → ((j p : ℕ) → done ≤ j → j < cycles → p < length slots → get_or new (length slots * j + p) 0 ≡ get_or row (line * j + (get_or slots p 0 - 1)) 0)
    → (j p : ℕ) → j < cycles → p < length slots → get_or new (length slots * j + p) 0 ≡ get_or row (line * j + (get_or slots p 0 - 1)) 0
all_cycles row slots mid new line done first stays cycles rest j p lj lp = go (order done j)
  where
    go : (done ≤ j) ⊎ (j < done) → get_or new (length slots * j + p) 0 ≡ get_or row (line * j + (get_or slots p 0 - 1)) 0
    go (inl l) = rest j p l lj lp
    go (inr l) =
        let s = lower (length slots) j done l in
        stays (length slots * j + p) (omega arith) ∙ first j p l lp

-- of a line of so many slots
pub at_line : (row slots mid mid' : List ℕ) (line line' done done' : ℕ) → line ≡ line' → mid ≡ mid' → done ≡ done'
    → ((j p : ℕ) → j < done' → p < length slots → get_or mid' (length slots * j + p) 0 ≡ get_or row (line' * j + (get_or slots p 0 - 1)) 0)
    → (j p : ℕ) → j < done → p < length slots → get_or mid (length slots * j + p) 0 ≡ get_or row (line * j + (get_or slots p 0 - 1)) 0
at_line row slots mid mid' line line' done done' e same many h j p lj lp =
    ap (λ xs. get_or xs (length slots * j + p) 0) same ∙ h j p (omega arith) lp ∙ ap (λ n. get_or row (n * j + (get_or slots p 0 - 1)) 0) (sym e)

-- one cycle more of 32 columns, half by half
pub half_more : (row slots into mid new first second : List ℕ) (cycle low : ℕ) → low ≤ 16 → length slots - low ≤ 16
    → ((p : ℕ) → p < low → get_or first p 0 ≡ get_or slots p 0 - 1)
    → ((p : ℕ) → low + p < length slots → get_or second p 0 ≡ get_or slots (low + p) 0 - 1 - 16)
    → ((p : ℕ) → low ≤ p → p < length slots → 17 ≤ get_or slots p 0)
    → ((j p : ℕ) → j < cycle → p < length slots → get_or into (length slots * j + p) 0 ≡ get_or row (32 * j + (get_or slots p 0 - 1)) 0)
    → ((n : ℕ) → n < length slots * cycle → get_or mid n 0 ≡ get_or into n 0)
    → ((i : ℕ) → i < 16 → get_or mid (length slots * cycle + i) 0 ≡ get_or row (32 * cycle + get_or first i 0) 0)
    → ((n : ℕ) → n < length slots * cycle + low → get_or new n 0 ≡ get_or mid n 0)
    → ((i : ℕ) → i < 16 → get_or new (length slots * cycle + low + i) 0 ≡ get_or row (32 * cycle + 16 + get_or second i 0) 0)
    → (j p : ℕ) → j < cycle + 1 → p < length slots → get_or new (length slots * j + p) 0 ≡ get_or row (32 * j + (get_or slots p 0 - 1)) 0
half_more row slots into mid new first second cycle low few many firsts seconds high before below_first here_first below_second here_second j p lj lp = go (order cycle j)
  where
    in_cycle : (low ≤ p) ⊎ (p < low) → get_or new (length slots * cycle + p) 0 ≡ get_or row (32 * cycle + (get_or slots p 0 - 1)) 0
    in_cycle (inl l) =
        let e : low + (p - low) ≡ p = omega arith in
        let h = high p l lp in
        ap (λ n. get_or new n 0) (let q : length slots * cycle + p ≡ length slots * cycle + low + (p - low) = omega arith in q)
        ∙ here_second (p - low) (omega arith)
        ∙ ap (λ n. get_or row (32 * cycle + 16 + n) 0) (seconds (p - low) (omega arith) ∙ ap (λ n. get_or slots n 0 - 1 - 16) e)
        ∙ ap (λ n. get_or row n 0) (let q : 32 * cycle + 16 + (get_or slots p 0 - 1 - 16) ≡ 32 * cycle + (get_or slots p 0 - 1) = omega arith in q)
    in_cycle (inr l) =
        below_second (length slots * cycle + p) (omega arith)
        ∙ here_first p (omega arith)
        ∙ ap (λ n. get_or row (32 * cycle + n) 0) (firsts p l)

    go : (cycle ≤ j) ⊎ (j < cycle) → get_or new (length slots * j + p) 0 ≡ get_or row (32 * j + (get_or slots p 0 - 1)) 0
    go (inl l) =
        let e : j ≡ cycle = omega arith in
        ap (λ i. get_or new (length slots * i + p) 0) e ∙ in_cycle (order low p) ∙ ap (λ i. get_or row (32 * i + (get_or slots p 0 - 1)) 0) (sym e)
    go (inr l) =
        let s = lower (length slots) j cycle l in
        below_second (length slots * j + p) (omega arith) ∙ below_first (length slots * j + p) (omega arith) ∙ before j p l lp
