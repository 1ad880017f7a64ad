-- Steps of `half_spread` and `spread_lanes`: which of the bytes of some slots in two cycles of eight columns stands in
-- each of these columns.
use Rattle.std.specs.Prelude.{◌≡◌, ◌≢◌, ℕ, ◌+◌, ◌-◌, ◌%◌, ◌<◌, ◌⊎◌, List, length, slice_index}

-- 128 stands for a column of another slot
pub record SpreadLanes (slots lanes : List ℕ) : Type 0 where
  pub first : (p : ℕ) → p < length slots → slice_index lanes (slice_index slots p - 1) ≡ p
  pub second : (p : ℕ) → p < length slots → slice_index lanes (slice_index slots p - 1 + 8) ≡ length slots + p
  pub others : (i : ℕ) → i < 16 → ((p : ℕ) → p < length slots → i % 8 + 1 ≢ slice_index slots p)
      → slice_index lanes i ≡ 128
  pub low : (i : ℕ) → (slice_index lanes i < 16) ⊎ (slice_index lanes i ≡ 128)
  pub long : length lanes ≡ 16

-- Which of the bytes of some slots stands in each of the sixteen columns behind so many.
pub record HalfLanes (slots : List ℕ) (before : ℕ) (lanes : List ℕ) : Type 0 where
  pub each : (p : ℕ) → p < length slots → slice_index lanes (slice_index slots p - 1 - before) ≡ p
  pub others : (i : ℕ) → i < 16 → ((p : ℕ) → p < length slots → before + i + 1 ≢ slice_index slots p)
      → slice_index lanes i ≡ 128
  pub low : (i : ℕ) → (slice_index lanes i < 16) ⊎ (slice_index lanes i ≡ 128)
  pub long : length lanes ≡ 16
