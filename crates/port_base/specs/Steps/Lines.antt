-- Steps of `first_line`: lines of bytes.
use Rattle.std.specs.Prelude.{◌≡◌, ◌≢◌, ◌<◌, ◌≤◌, ◌+◌, ℕ, List, length, slice_index}

-- the first line has so many bytes, with its line feed: all, where there is none
pub record IsFirstLine (bytes : List ℕ) (n : ℕ) : Type 0 where
  pub within : n ≤ length bytes
  pub some : 0 < length bytes → 0 < n
  pub clean : (k : ℕ) → k + 1 < n → slice_index bytes k ≢ 10
  pub whole : n < length bytes → (k : ℕ) → n ≡ k + 1 → slice_index bytes k ≡ 10
