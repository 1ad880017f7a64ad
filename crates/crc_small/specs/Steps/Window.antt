-- Steps of `unfold`, `start` and others: the last 96 bytes that were folded, in six vectors.
use Rattle.std.specs.Prelude.{◌≡◌, ℕ, ◌+◌, ◌^◌, ◌<◌, List, ◌++◌, length, slice_index}
use Rattle.crc_small.specs.declared.long_message.Window.{Window}

-- a vector of sixteen bytes
pub record IsVector (xs : List ℕ) : Type 0 where
  pub long : length xs ≡ 16
  pub bytes : (i : ℕ) → slice_index xs i < 2 ^ 8

-- six vectors
pub record IsWindow (w : Window) : Type 0 where
  pub first : IsVector w.v1
  pub second : IsVector w.v2
  pub third : IsVector w.v3
  pub fourth : IsVector w.v4
  pub fifth : IsVector w.v5
  pub sixth : IsVector w.v6

-- its bytes, the oldest first
abbrev pub all_bytes : Window → List ℕ
all_bytes w = w.v6 ++ (w.v5 ++ (w.v4 ++ (w.v3 ++ (w.v2 ++ w.v1))))

-- byte k, from 0, of the 93 newest
abbrev pub window_byte : Window → ℕ → ℕ
window_byte w k = slice_index (all_bytes w) (3 + k)
