-- Lists written into one, each a step behind the one before it.
use Rattle.std.proofs.Common.{◌≡◌, ℕ, zero, suc, ◌+◌, ◌-◌, ◌*◌, ◌<◌, ◌≤◌, ◌⊎◌, inl, inr, List, [], ◌∷◌, length, get_or, refl, ap, subst, ◌∙◌, arith}
use Rattle.std.proofs.lemmas.Simd.{length-put_chunk, get_or-put_chunk_below, get_or-put_chunk_at, get_or-put_chunk_above}
use Rattle.std.specs.Simd.Lanes.{put_chunk}
use Rattle.lane_kernels.specs.Steps.Blocks.{puts, eight, sixteen, byte_lists, group_lists}
use Rattle.lane_kernels.proofs.Blocks.{get_eight, get_sixteen}

-- an earlier place lies a whole step lower
pub lower : (step i j : ℕ) → i < j → step * i + step ≤ step * j
lower step i j h =
    let e : j ≡ i + 1 + (j - i - 1) = omega arith in
    let f : step * j ≡ step * (i + 1 + (j - i - 1)) = ap (λ k. step * k) e in
    omega arith

pub no_higher : (step i j : ℕ) → i ≤ j → step * i ≤ step * j
no_higher step i j h =
    let e : j ≡ i + (j - i) = omega arith in
    let f : step * j ≡ step * (i + (j - i)) = ap (λ k. step * k) e in
    omega arith

-- lists of one length
abbrev pub EachLong : ℕ → List (List ℕ) → Type 0
EachLong w [] = Unit {0}
EachLong w (v ∷ vs) = (length v ≡ w) × EachLong w vs

put_other : (at w : ℕ) (xs v : List ℕ) (n : ℕ) → length v ≡ w → (n < at) ⊎ (at + w ≤ n) → get_or (put_chunk at xs v) n 0 ≡ get_or xs n 0
put_other at w xs v n e (inl h) = get_or-put_chunk_below at xs v n 0 h
put_other at w xs v n e (inr h) = get_or-put_chunk_above at xs v n 0 (omega arith)

pub puts-other : (at step i w : ℕ) (vs : List (List ℕ)) (xs : List ℕ) (n : ℕ) → EachLong w vs
    → ((m : ℕ) → m < length vs → (n < at + step * (i + m)) ⊎ (at + step * (i + m) + w ≤ n))
    → get_or (puts at step i vs xs) n 0 ≡ get_or xs n 0
unfolding puts
puts-other at step i w [] xs n long apart = refl
puts-other at step i w (v ∷ vs) xs n long apart =
    puts-other at step (i + 1) w vs (put_chunk (at + step * i) xs v) n long.1 (λ m h.
    let e : i + (m + 1) ≡ i + 1 + m = omega arith in
    let P : ℕ → Type 0 = λ k. (n < at + step * k) ⊎ (at + step * k + w ≤ n) in
    subst P e (apart (m + 1) (omega arith)))
    ∙ put_other (at + step * i) w xs v n long.0 (
    let e : i + 0 ≡ i = omega arith in
    let P : ℕ → Type 0 = λ k. (n < at + step * k) ⊎ (at + step * k + w ≤ n) in
    subst P e (apart 0 (omega arith)))

pub puts-here : (at step i w : ℕ) (vs : List (List ℕ)) (xs : List ℕ) (m j : ℕ) → EachLong w vs → w ≤ step → m < length vs → j < w
    → at + step * (i + m) + w ≤ length xs
    → get_or (puts at step i vs xs) (at + step * (i + m) + j) 0 ≡ get_or (get_or vs m []) j 0
unfolding puts
puts-here at step i w [] xs m j long wide some below room = absurd (omega arith)
puts-here at step i w (v ∷ vs) xs zero j long wide some below room =
    let e : i + 0 ≡ i = omega arith in
    let f : step * (i + 0) ≡ step * i = ap (λ k. step * k) e in
    puts-other at step (i + 1) w vs (put_chunk (at + step * i) xs v) (at + step * (i + 0) + j) long.1 (λ m h.
    let l = lower step i (i + 1 + m) (omega arith) in
    inl (omega arith))
    ∙ ap (λ k. get_or (put_chunk (at + step * i) xs v) k 0) (let g : at + step * (i + 0) + j ≡ at + step * i + j = omega arith in g)
    ∙ get_or-put_chunk_at (at + step * i) xs v j 0 (omega (arith, long.0)) (omega (arith, long.0))
puts-here at step i w (v ∷ vs) xs (suc m) j long wide some below room =
    let e : i + suc m ≡ i + 1 + m = omega arith in
    let f : step * (i + suc m) ≡ step * (i + 1 + m) = ap (λ k. step * k) e in
    ap (λ k. get_or (puts at step (i + 1) vs (put_chunk (at + step * i) xs v)) k 0) (let g : at + step * (i + suc m) + j ≡ at + step * (i + 1 + m) + j = omega arith in g)
    ∙ puts-here at step (i + 1) w vs (put_chunk (at + step * i) xs v) m j long.1 wide (omega arith) below (omega (arith, length-put_chunk (at + step * i) xs v))

get_byte_list : (f : ℕ → ℕ → ℕ) (b : ℕ) → b < 8 → get_or (byte_lists f) b [] ≡ sixteen (λ g. f g b)
get_byte_list f zero h = refl
get_byte_list f (suc zero) h = refl
get_byte_list f (suc (suc zero)) h = refl
get_byte_list f (suc (suc (suc zero))) h = refl
get_byte_list f (suc (suc (suc (suc zero)))) h = refl
get_byte_list f (suc (suc (suc (suc (suc zero))))) h = refl
get_byte_list f (suc (suc (suc (suc (suc (suc zero)))))) h = refl
get_byte_list f (suc (suc (suc (suc (suc (suc (suc zero))))))) h = refl
get_byte_list f (suc (suc (suc (suc (suc (suc (suc (suc i)))))))) h = absurd (omega arith)

get_group_list : (f : ℕ → ℕ → ℕ) (g : ℕ) → g < 16 → get_or (group_lists f) g [] ≡ eight (f g)
get_group_list f zero h = refl
get_group_list f (suc zero) h = refl
get_group_list f (suc (suc zero)) h = refl
get_group_list f (suc (suc (suc zero))) h = refl
get_group_list f (suc (suc (suc (suc zero)))) h = refl
get_group_list f (suc (suc (suc (suc (suc zero))))) h = refl
get_group_list f (suc (suc (suc (suc (suc (suc zero)))))) h = refl
get_group_list f (suc (suc (suc (suc (suc (suc (suc zero))))))) h = refl
get_group_list f (suc (suc (suc (suc (suc (suc (suc (suc zero)))))))) h = refl
get_group_list f (suc (suc (suc (suc (suc (suc (suc (suc (suc zero))))))))) h = refl
get_group_list f (suc (suc (suc (suc (suc (suc (suc (suc (suc (suc zero)))))))))) h = refl
get_group_list f (suc (suc (suc (suc (suc (suc (suc (suc (suc (suc (suc zero))))))))))) h = refl
get_group_list f (suc (suc (suc (suc (suc (suc (suc (suc (suc (suc (suc (suc zero)))))))))))) h = refl
get_group_list f (suc (suc (suc (suc (suc (suc (suc (suc (suc (suc (suc (suc (suc zero))))))))))))) h = refl
get_group_list f (suc (suc (suc (suc (suc (suc (suc (suc (suc (suc (suc (suc (suc (suc zero)))))))))))))) h = refl
get_group_list f (suc (suc (suc (suc (suc (suc (suc (suc (suc (suc (suc (suc (suc (suc (suc zero))))))))))))))) h = refl
get_group_list f (suc (suc (suc (suc (suc (suc (suc (suc (suc (suc (suc (suc (suc (suc (suc (suc i)))))))))))))))) h = absurd (omega arith)

-- the first bytes of sixteen groups, the second, and so on
pub bytes-here : (f : ℕ → ℕ → ℕ) (at step : ℕ) (xs new : List ℕ) → new ≡ puts at step 0 (byte_lists f) xs → 16 ≤ step → at + step * 7 + 16 ≤ length xs
    → (g b : ℕ) → g < 16 → b < 8 → get_or new (at + step * b + g) 0 ≡ f g b
bytes-here f at step xs new e wide room g b lg lb =
    let k : 0 + b ≡ b = omega arith in
    let h : step * (0 + b) ≡ step * b = ap (λ n. step * n) k in
    let n = no_higher step b 7 (omega arith) in
    ap (λ ys. get_or ys (at + step * b + g) 0) e
    ∙ ap (λ p. get_or (puts at step 0 (byte_lists f) xs) p 0) (let q : at + step * b + g ≡ at + step * (0 + b) + g = omega arith in q)
    ∙ puts-here at step 0 16 (byte_lists f) xs b g (refl, (refl, (refl, (refl, (refl, (refl, (refl, (refl, tt)))))))) wide lb lg (omega arith)
    ∙ ap (λ ys. get_or ys g 0) (get_byte_list f b lb)
    ∙ get_sixteen (λ g. f g b) g lg

pub bytes-other : (f : ℕ → ℕ → ℕ) (at step : ℕ) (xs new : List ℕ) → new ≡ puts at step 0 (byte_lists f) xs
    → (n : ℕ) → ((b : ℕ) → b < 8 → (n < at + step * b) ⊎ (at + step * b + 16 ≤ n)) → get_or new n 0 ≡ get_or xs n 0
bytes-other f at step xs new e n apart =
    ap (λ ys. get_or ys n 0) e
    ∙ puts-other at step 0 16 (byte_lists f) xs n (refl, (refl, (refl, (refl, (refl, (refl, (refl, (refl, tt)))))))) (λ m h.
    let P : ℕ → Type 0 = λ k. (n < at + step * k) ⊎ (at + step * k + 16 ≤ n) in
    subst P (let k : m ≡ 0 + m = omega arith in k) (apart m h))

-- the groups
pub groups-here : (f : ℕ → ℕ → ℕ) (at step : ℕ) (xs new : List ℕ) → new ≡ puts at step 0 (group_lists f) xs → 8 ≤ step → at + step * 15 + 8 ≤ length xs
    → (g b : ℕ) → g < 16 → b < 8 → get_or new (at + step * g + b) 0 ≡ f g b
groups-here f at step xs new e wide room g b lg lb =
    let k : 0 + g ≡ g = omega arith in
    let h : step * (0 + g) ≡ step * g = ap (λ n. step * n) k in
    let n = no_higher step g 15 (omega arith) in
    ap (λ ys. get_or ys (at + step * g + b) 0) e
    ∙ ap (λ p. get_or (puts at step 0 (group_lists f) xs) p 0) (let q : at + step * g + b ≡ at + step * (0 + g) + b = omega arith in q)
    ∙ puts-here at step 0 8 (group_lists f) xs g b (refl, (refl, (refl, (refl, (refl, (refl, (refl, (refl, (refl, (refl, (refl, (refl, (refl, (refl, (refl, (refl, tt)))))))))))))))) wide lg lb (omega arith)
    ∙ ap (λ ys. get_or ys b 0) (get_group_list f g lg)
    ∙ get_eight (f g) b lb

pub groups-other : (f : ℕ → ℕ → ℕ) (at step : ℕ) (xs new : List ℕ) → new ≡ puts at step 0 (group_lists f) xs
    → (n : ℕ) → ((g : ℕ) → g < 16 → (n < at + step * g) ⊎ (at + step * g + 8 ≤ n)) → get_or new n 0 ≡ get_or xs n 0
groups-other f at step xs new e n apart =
    ap (λ ys. get_or ys n 0) e
    ∙ puts-other at step 0 8 (group_lists f) xs n (refl, (refl, (refl, (refl, (refl, (refl, (refl, (refl, (refl, (refl, (refl, (refl, (refl, (refl, (refl, (refl, tt)))))))))))))))) (λ m h.
    let P : ℕ → Type 0 = λ k. (n < at + step * k) ⊎ (at + step * k + 8 ≤ n) in
    subst P (let k : m ≡ 0 + m = omega arith in k) (apart m h))
