-- The bytes of turns, with some dropped in front.
use Rattle.std.proofs.Common.{◌≡◌, ◌⊎◌, inl, inr, ℕ, ◌+◌, ◌-◌, ◌<◌, ◌≤◌, List, ◌++◌, drop, length, get_or, ap, ◌∙◌, sym, subst, arith, length-append}
use Rattle.std.specs.Prelude.{min, slice_range}
use Rattle.std.proofs.lemmas.Bool.{cases_lt}
use Rattle.std.proofs.lemmas.List.{length-take, length-drop, drop-drop, drop-append-le, drop_all, drop_at, get_or_append_left, get_or-append_right, nil_from_length}

-- how many stand between two places of a buffer
pub range_long : (xs : List ℕ) (first last : ℕ) → last ≤ length xs → last - first ≡ length (slice_range xs first last)
range_long xs first last low =
    let front = length-take (last - first) (drop first xs) in
    let rest = length-drop first xs in
    omega arith

-- those over, those of the turn that is put, and those of the newest one
pub dropped : (over current coming : List ℕ) (count here : ℕ) → here ≡ min count (length over) → count + length coming ≤ length (over ++ current ++ coming)
    → drop here over ++ drop (count - here) current ++ coming ≡ drop count (over ++ current ++ coming)
dropped over current coming count here is fits = ap (λ xs. xs ++ coming) (go (cases_lt (length over) count)) ∙ sym (drop-append-le count (over ++ current) coming (let long = length-append (over ++ current) coming in omega arith))
  where
    go : (length over < count) ⊎ (count ≤ length over) → drop here over ++ drop (count - here) current ≡ drop count (over ++ current)
    go (inr low) =
        ap (λ k. drop k over ++ drop (count - k) current) (let e : here ≡ count = omega arith in e)
        ∙ ap (λ k. drop count over ++ drop k current) (let e : count - count ≡ 0 = omega arith in e)
        ∙ sym (drop-append-le count over current low)
    go (inl high) =
        let all : here ≡ length over = omega arith in
        ap (λ xs. xs ++ drop (count - here) current) (drop_all here over (omega arith))
        ∙ ap (drop (count - here)) (sym (drop_at over current here (sym all)))
        ∙ drop-drop (count - here) here (over ++ current)
        ∙ ap (λ k. drop k (over ++ current)) (let e : here + (count - here) ≡ count = omega arith in e)

-- one of the first bytes, where they are moved out
pub read : (over current coming into : List ℕ) (count here i : ℕ) → here ≡ min count (length over) → count + length coming ≤ length (over ++ current ++ coming) → i < count
    → ((k : ℕ) → k < here → get_or into k 0 ≡ get_or over k 0) → ((k : ℕ) → k < count - here → get_or into (here + k) 0 ≡ get_or current k 0)
    → get_or into i 0 ≡ get_or (over ++ current ++ coming) i 0
read over current coming into count here i is fits h first then = go (cases_lt i here) ∙ sym (get_or_append_left (over ++ current) coming 0 i (let long = length-append (over ++ current) coming in omega arith))
  where
    go : (i < here) ⊎ (here ≤ i) → get_or into i 0 ≡ get_or (over ++ current) i 0
    go (inl low) = first i low ∙ sym (get_or_append_left over current 0 i (omega arith))
    go (inr high) =
        ap (λ k. get_or into k 0) (let e : i ≡ here + (i - here) = omega arith in e)
        ∙ then (i - here) (omega arith)
        ∙ sym (get_or-append_right over current here i 0 (let e : length over ≡ here = omega arith in e) high)

-- one of those that stand together in front, where some are over
pub first_over : (over current coming front back : List ℕ) (i : ℕ) → front ++ back ≡ over → i < length front → get_or front i 0 ≡ get_or (over ++ current ++ coming) i 0
first_over over current coming front back i is h =
    let long = length-append front back in
    let all : length (front ++ back) ≡ length over = ap length is in
    let both = length-append over current in
    sym (get_or_append_left front back 0 i h)
    ∙ ap (λ xs. get_or xs i 0) is
    ∙ sym (get_or_append_left over current 0 i (omega arith))
    ∙ sym (get_or_append_left (over ++ current) coming 0 i (omega arith))

-- and where none are
pub first_current : (over current coming front : List ℕ) (i : ℕ) → length over ≡ 0 → front ≡ current → i < length front → get_or front i 0 ≡ get_or (over ++ current ++ coming) i 0
first_current over current coming front i none is h =
    ap (λ xs. get_or xs i 0) is
    ∙ sym (get_or_append_left current coming 0 i (subst (λ xs. i < length xs) is h))
    ∙ ap (λ xs. get_or (xs ++ current ++ coming) i 0) (sym (nil_from_length over none))
