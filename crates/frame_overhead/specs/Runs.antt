-- Believed: bytes written into a row of a frame.
use Rattle.std.specs.Prelude.{◌≡◌, ◌≢◌, ◌⊎◌, ℕ, ◌+◌, ◌<◌, ◌≤◌, List, length, slice_index}
use Rattle.frame_geometry.specs.Places.{place_of}

-- a row and a column of a frame
pub record IsPlace (cols row col : ℕ) : Type 0 where
  pub row_low : 1 ≤ row
  pub row_high : row ≤ 4
  pub col_low : 1 ≤ col
  pub col_high : col ≤ cols

-- the byte in a row and a column
abbrev pub byte_of : (cols row col : ℕ) → List ℕ → ℕ
byte_of cols row col frame = slice_index frame (place_of cols row col)

-- these bytes were written into a row, from a column on, and every other byte stayed
pub record IsPut (cols row col : ℕ) (bytes old new : List ℕ) : Type 0 where
  pub run : (k : ℕ) → k < length bytes → byte_of cols row (col + k) new ≡ slice_index bytes k
  pub others : (r c : ℕ) → IsPlace cols r c → (r ≢ row) ⊎ ((c < col) ⊎ (col + length bytes ≤ c))
      → byte_of cols r c new ≡ byte_of cols r c old
  pub size : length new ≡ length old
