-- Blocks of sixteen groups of eight bytes.
use Rattle.std.proofs.Common.{◌≡◌, ℕ, zero, suc, ◌+◌, ◌<◌, ◌≤◌, List, [], ◌∷◌, ◌++◌, length, get_or, refl, ap, sym, ◌∙◌, arith}
use Rattle.std.proofs.lemmas.List.{ext_get_or}
use Rattle.std.proofs.lemmas.Simd.{length-chunk, get_or-chunk}
use Rattle.std.specs.Simd.Lanes.{chunk, pick_l}
use Rattle.lane_kernels.specs.declared.block.Block.{Block}
use Rattle.lane_kernels.specs.Steps.Blocks.{by_groups, by_bytes, interleaved, seconds, eight, sixteen, two_groups, bytes_from}

by_four : (f : ℕ → ℕ → ℕ) → interleaved (interleaved (interleaved (interleaved (by_groups f)))) ≡ by_bytes f
unfolding interleaved by_groups by_bytes
by_four f = refl

by_three : (f : ℕ → ℕ → ℕ) → interleaved (interleaved (interleaved (by_bytes f))) ≡ by_groups f
unfolding interleaved by_groups by_bytes
by_three f = refl

pub turned : (f : ℕ → ℕ → ℕ) (x a b c d : Block) → x ≡ by_groups f → a ≡ interleaved x → b ≡ interleaved a → c ≡ interleaved b → d ≡ interleaved c → d ≡ by_bytes f
turned f x a b c d e p q r s = s ∙ ap interleaved (r ∙ ap interleaved (q ∙ ap interleaved (p ∙ ap interleaved e))) ∙ by_four f

pub turned_back : (f : ℕ → ℕ → ℕ) (x a b c : Block) → x ≡ by_bytes f → a ≡ interleaved x → b ≡ interleaved a → c ≡ interleaved b → c ≡ by_groups f
turned_back f x a b c e p q r = r ∙ ap interleaved (q ∙ ap interleaved (p ∙ ap interleaved e)) ∙ by_three f

abbrev first_of : Block → List ℕ
first_of x = seconds (seconds (seconds x.v0 x.v1) (seconds x.v2 x.v3)) (seconds (seconds x.v4 x.v5) (seconds x.v6 x.v7))

by_firsts : (f : ℕ → ℕ → ℕ) → first_of (by_groups f) ≡ sixteen (λ g. f g 0)
unfolding by_groups
by_firsts f = refl

pub firsts : (f : ℕ → ℕ → ℕ) (x : Block) → x ≡ by_groups f
    → seconds (seconds (seconds x.v0 x.v1) (seconds x.v2 x.v3)) (seconds (seconds x.v4 x.v5) (seconds x.v6 x.v7)) ≡ sixteen (λ g. f g 0)
firsts f x e = ap first_of e ∙ by_firsts f

pub get_eight : (f : ℕ → ℕ) (i : ℕ) → i < 8 → get_or (eight f) i 0 ≡ f i
get_eight f zero h = refl
get_eight f (suc zero) h = refl
get_eight f (suc (suc zero)) h = refl
get_eight f (suc (suc (suc zero))) h = refl
get_eight f (suc (suc (suc (suc zero)))) h = refl
get_eight f (suc (suc (suc (suc (suc zero))))) h = refl
get_eight f (suc (suc (suc (suc (suc (suc zero)))))) h = refl
get_eight f (suc (suc (suc (suc (suc (suc (suc zero))))))) h = refl
get_eight f (suc (suc (suc (suc (suc (suc (suc (suc i)))))))) h = absurd (omega arith)

pub get_sixteen : (f : ℕ → ℕ) (i : ℕ) → i < 16 → get_or (sixteen f) i 0 ≡ f i
get_sixteen f zero h = refl
get_sixteen f (suc zero) h = refl
get_sixteen f (suc (suc zero)) h = refl
get_sixteen f (suc (suc (suc zero))) h = refl
get_sixteen f (suc (suc (suc (suc zero)))) h = refl
get_sixteen f (suc (suc (suc (suc (suc zero))))) h = refl
get_sixteen f (suc (suc (suc (suc (suc (suc zero)))))) h = refl
get_sixteen f (suc (suc (suc (suc (suc (suc (suc zero))))))) h = refl
get_sixteen f (suc (suc (suc (suc (suc (suc (suc (suc i)))))))) h = get_eight (λ n. f (suc (suc (suc (suc (suc (suc (suc (suc n))))))))) i (omega arith)

pub eight_loaded : (row : List ℕ) (at : ℕ) → at + 8 ≤ length row → chunk at 8 row ≡ eight (bytes_from row at)
unfolding bytes_from
eight_loaded row at h =
    let long : length (chunk at 8 row) ≡ 8 = length-chunk at 8 row h in
    ext_get_or 0 (chunk at 8 row) (eight (bytes_from row at)) long (λ i l.
    let below : i < 8 = omega arith in
    get_or-chunk at 8 row i 0 below ∙ sym (get_eight (bytes_from row at) i below))

pub sixteen_loaded : (row : List ℕ) (at : ℕ) → at + 16 ≤ length row → chunk at 16 row ≡ sixteen (bytes_from row at)
unfolding bytes_from
sixteen_loaded row at h =
    let long : length (chunk at 16 row) ≡ 16 = length-chunk at 16 row h in
    ext_get_or 0 (chunk at 16 row) (sixteen (bytes_from row at)) long (λ i l.
    let below : i < 16 = omega arith in
    get_or-chunk at 16 row i 0 below ∙ sym (get_sixteen (bytes_from row at) i below))

-- two groups side by side
abbrev pub beside : List ℕ → List ℕ → List ℕ
beside xs ys = pick_l 0 (xs ++ ys) (0 ∷ 1 ∷ 2 ∷ 3 ∷ 4 ∷ 5 ∷ 6 ∷ 7 ∷ 8 ∷ 9 ∷ 10 ∷ 11 ∷ 12 ∷ 13 ∷ 14 ∷ 15 ∷ [])

pub two_loaded : (row : List ℕ) (a b : ℕ) → a + 8 ≤ length row → b + 8 ≤ length row
    → beside (chunk a 8 row) (chunk b 8 row) ≡ two_groups (bytes_from row a) (bytes_from row b)
two_loaded row a b h k =
    ap (λ xs. beside xs (chunk b 8 row)) (eight_loaded row a h) ∙ ap (beside (eight (bytes_from row a))) (eight_loaded row b k)
