-- Steps of `carry`, `first_lf` and others: bytes that go on with a line.
use Rattle.std.specs.Prelude.{◌≡◌, ◌<◌, ◌+◌, ◌==◌, ℕ, false, List, ◌∷◌, ◌++◌, map, length, take, drop, slice_index}
use Rattle.std.specs.Simd.Lanes.{mask_l}
use Rattle.packet_text.specs.TextLines.{has_lf}

-- the first LF is byte n
pub record IsFirstLf (bytes : List ℕ) (n : ℕ) : Type 0 where
  pub within : n < length bytes
  pub clean : has_lf (take n bytes) ≡ false
  pub here : slice_index bytes n ≡ 10

-- all of them: there is no LF
pub record NoneCarried (old bytes new : List ℕ) : Type 0 where
  pub line : new ≡ old ++ bytes
  pub clean : has_lf bytes ≡ false

-- those before the first LF, which is byte n
pub record Carried (old bytes : List ℕ) (n : ℕ) (new : List ℕ) : Type 0 where
  pub within : n < length bytes
  pub line : new ≡ old ++ take n bytes
  pub clean : has_lf (take n bytes) ≡ false
  pub parts : bytes ≡ take n bytes ++ 10 ∷ drop (n + 1) bytes

-- a bit for each LF, the first the lowest
abbrev pub lf_bits : List ℕ → ℕ
lf_bits bytes = mask_l (map (λ x. x == 10) bytes)
