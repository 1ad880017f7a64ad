-- The bytes of one slot of a row.
use Rattle.std.proofs.Common.{◌≡◌, ℕ, ◌+◌, ◌-◌, ◌*◌, ◌<◌, ◌≤◌, ◌⊎◌, inl, inr, List, length, get_or, ap, ◌∙◌, arith}
use Rattle.std.proofs.lemmas.Simd.{get_or-put_chunk_below, get_or-put_chunk_at}
use Rattle.std.specs.Simd.Lanes.{put_chunk}
use Rattle.lane_kernels.specs.Steps.Blocks.{bytes_from, sixteen}
use Rattle.lane_kernels.proofs.Blocks.{get_sixteen}

pub block_below : (into v : List ℕ) (to : ℕ) → (j : ℕ) → j < to → get_or (put_chunk to into v) j 0 ≡ get_or into j 0
block_below into v to j h = get_or-put_chunk_below to into v j 0 h

pub block_here : (row into v : List ℕ) (at to : ℕ) → to + 16 ≤ length into → v ≡ sixteen (λ g. bytes_from row (at + 8 * g) 0)
    → (j : ℕ) → j < 16 → get_or (put_chunk to into v) (to + j) 0 ≡ get_or row (at + 8 * j) 0
unfolding bytes_from
block_here row into v at to room e j h =
    let f : ℕ → ℕ = λ g. bytes_from row (at + 8 * g) 0 in
    ap (λ w. get_or (put_chunk to into w) (to + j) 0) e
    ∙ get_or-put_chunk_at to into (sixteen f) j 0 h room
    ∙ get_sixteen f j h
    ∙ ap (λ n. get_or row n 0) (let q : at + 8 * j + 0 ≡ at + 8 * j = omega arith in q)

order : (i j : ℕ) → (i ≤ j) ⊎ (j < i)
order i j = grind arith

-- sixteen cycles more
pub blocks_more : (row into new : List ℕ) (first block : ℕ)
    → ((j : ℕ) → j < 16 * block → get_or into j 0 ≡ get_or row (8 * j + first) 0)
    → ((j : ℕ) → j < 16 * block → get_or new j 0 ≡ get_or into j 0)
    → ((j : ℕ) → j < 16 → get_or new (16 * block + j) 0 ≡ get_or row (128 * block + first + 8 * j) 0)
    → (j : ℕ) → j < 16 * (block + 1) → get_or new j 0 ≡ get_or row (8 * j + first) 0
blocks_more row into new first block before below here j h = go (order (16 * block) j)
  where
    go : (16 * block ≤ j) ⊎ (j < 16 * block) → get_or new j 0 ≡ get_or row (8 * j + first) 0
    go (inl l) =
        ap (λ n. get_or new n 0) (let e : j ≡ 16 * block + (j - 16 * block) = omega arith in e)
        ∙ here (j - 16 * block) (omega arith)
        ∙ ap (λ n. get_or row n 0) (let e : 128 * block + first + 8 * (j - 16 * block) ≡ 8 * j + first = omega arith in e)
    go (inr l) = below j l ∙ before j l
