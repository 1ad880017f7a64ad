-- Steps of `load_bytes`, `store_bytes` and others: blocks of sixteen groups of eight bytes, as eight vectors of sixteen
-- bytes.
use Rattle.std.specs.Prelude.{ℕ, ◌+◌, ◌*◌, List, [], ◌∷◌, ◌++◌, slice_index}
use Rattle.std.specs.Simd.Lanes.{pick_l, put_chunk}
use Rattle.lane_kernels.specs.declared.block.Block.{Block}

-- lanes 0 to 7 of two vectors, in turn
abbrev pub low_half : List ℕ → List ℕ → List ℕ
low_half xs ys = pick_l 0 (xs ++ ys) (0 ∷ 16 ∷ 1 ∷ 17 ∷ 2 ∷ 18 ∷ 3 ∷ 19 ∷ 4 ∷ 20 ∷ 5 ∷ 21 ∷ 6 ∷ 22 ∷ 7 ∷ 23 ∷ [])

-- lanes 8 to 15 of two vectors, in turn
abbrev pub high_half : List ℕ → List ℕ → List ℕ
high_half xs ys = pick_l 0 (xs ++ ys) (8 ∷ 24 ∷ 9 ∷ 25 ∷ 10 ∷ 26 ∷ 11 ∷ 27 ∷ 12 ∷ 28 ∷ 13 ∷ 29 ∷ 14 ∷ 30 ∷ 15 ∷ 31 ∷ [])

-- lanes 0, 2, 4 and so on
abbrev pub seconds : List ℕ → List ℕ → List ℕ
seconds xs ys = pick_l 0 (xs ++ ys) (0 ∷ 2 ∷ 4 ∷ 6 ∷ 8 ∷ 10 ∷ 12 ∷ 14 ∷ 16 ∷ 18 ∷ 20 ∷ 22 ∷ 24 ∷ 26 ∷ 28 ∷ 30 ∷ [])

-- the vectors of the first half and of the second, byte by byte in turn
unfoldable pub interleaved : Block → Block
interleaved x = record {
  v0 = low_half x.v0 x.v4;
  v1 = high_half x.v0 x.v4;
  v2 = low_half x.v1 x.v5;
  v3 = high_half x.v1 x.v5;
  v4 = low_half x.v2 x.v6;
  v5 = high_half x.v2 x.v6;
  v6 = low_half x.v3 x.v7;
  v7 = high_half x.v3 x.v7;
}

-- a vector of sixteen bytes, lane by lane
abbrev pub sixteen : (ℕ → ℕ) → List ℕ
sixteen f = f 0 ∷ f 1 ∷ f 2 ∷ f 3 ∷ f 4 ∷ f 5 ∷ f 6 ∷ f 7 ∷ f 8 ∷ f 9 ∷ f 10 ∷ f 11 ∷ f 12 ∷ f 13 ∷ f 14 ∷ f 15 ∷ []

-- two groups of eight bytes
abbrev pub two_groups : (g h : ℕ → ℕ) → List ℕ
two_groups g h = g 0 ∷ g 1 ∷ g 2 ∷ g 3 ∷ g 4 ∷ g 5 ∷ g 6 ∷ g 7 ∷ h 0 ∷ h 1 ∷ h 2 ∷ h 3 ∷ h 4 ∷ h 5 ∷ h 6 ∷ h 7 ∷ []

-- group after group: f g b is byte b of group g
unfoldable pub by_groups : (ℕ → ℕ → ℕ) → Block
by_groups f = record {
  v0 = two_groups (f 0) (f 1);
  v1 = two_groups (f 2) (f 3);
  v2 = two_groups (f 4) (f 5);
  v3 = two_groups (f 6) (f 7);
  v4 = two_groups (f 8) (f 9);
  v5 = two_groups (f 10) (f 11);
  v6 = two_groups (f 12) (f 13);
  v7 = two_groups (f 14) (f 15);
}

-- the first byte of every group, then the second of every group, and so on
unfoldable pub by_bytes : (ℕ → ℕ → ℕ) → Block
by_bytes f = record {
  v0 = sixteen (λ g. f g 0);
  v1 = sixteen (λ g. f g 1);
  v2 = sixteen (λ g. f g 2);
  v3 = sixteen (λ g. f g 3);
  v4 = sixteen (λ g. f g 4);
  v5 = sixteen (λ g. f g 5);
  v6 = sixteen (λ g. f g 6);
  v7 = sixteen (λ g. f g 7);
}

-- a group of eight bytes
abbrev pub eight : (ℕ → ℕ) → List ℕ
eight f = f 0 ∷ f 1 ∷ f 2 ∷ f 3 ∷ f 4 ∷ f 5 ∷ f 6 ∷ f 7 ∷ []

-- the bytes of a list from a place on, counted from 0
unfoldable pub bytes_from : List ℕ → (at : ℕ) → ℕ → ℕ
bytes_from xs at i = slice_index xs (at + i)

-- the sixteen groups
abbrev pub group_lists : (ℕ → ℕ → ℕ) → List (List ℕ)
group_lists f = eight (f 0) ∷ eight (f 1) ∷ eight (f 2) ∷ eight (f 3) ∷ eight (f 4) ∷ eight (f 5) ∷ eight (f 6)
    ∷ eight (f 7) ∷ eight (f 8) ∷ eight (f 9) ∷ eight (f 10) ∷ eight (f 11) ∷ eight (f 12) ∷ eight (f 13) ∷ eight (f 14)
    ∷ eight (f 15) ∷ []

-- the first bytes of all groups, their second, and so on, as lists
abbrev pub byte_lists : (ℕ → ℕ → ℕ) → List (List ℕ)
byte_lists f = sixteen (λ g. f g 0) ∷ sixteen (λ g. f g 1) ∷ sixteen (λ g. f g 2) ∷ sixteen (λ g. f g 3)
    ∷ sixteen (λ g. f g 4) ∷ sixteen (λ g. f g 5) ∷ sixteen (λ g. f g 6) ∷ sixteen (λ g. f g 7) ∷ []

-- lists written into one, each a step behind the one before it, the first at step i from a place
unfoldable pub puts : (at step i : ℕ) → List (List ℕ) → List ℕ → List ℕ
puts at step i [] xs = xs
puts at step i (v ∷ vs) xs = puts at step (i + 1) vs (put_chunk (at + step * i) xs v)
