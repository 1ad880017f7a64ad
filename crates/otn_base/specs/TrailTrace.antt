-- Believed: trail trace identifiers.
use Rattle.std.specs.Prelude.{ℕ, ◌-◌, ◌≤◌, List, [], ◌∷◌, ◌++◌, length, replicate, EachIndex, slice_index}

-- a source access point identifier: at most 15 printable ASCII bytes
pub record IsSapi (sapi : List ℕ) : Type 0 where
  pub short : length sapi ≤ 15
  pub low : EachIndex sapi (λ i. 0x20 ≤ slice_index sapi i)
  pub high : EachIndex sapi (λ i. slice_index sapi i ≤ 0x7E)

-- so many bytes 0
unfoldable pub zeros : ℕ → List ℕ
zeros n = replicate n 0

-- G.709 clause 15.2: the 64 bytes of a trail trace identifier, a 0 and the identifier of the source in 15 bytes,
-- then an empty identifier of the destination in 16 bytes and an empty field of the operator in 32
abbrev pub trail_trace : List ℕ → List ℕ
trail_trace sapi = 0 ∷ [] ++ sapi ++ zeros (15 - length sapi) ++ zeros 48
