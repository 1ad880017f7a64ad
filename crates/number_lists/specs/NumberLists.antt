-- API: lists of numbers, and their texts.
use Rattle.std.specs.Prelude.{◌<◌, ◌≤◌, ℕ, List, All, length, map}
use Rattle.std.specs.Fmt.{decimal}
use Rattle.std.specs.List.{join_with_byte}

-- one number at least, so many at most, each below the limit
pub record IsNumberList (limit most : ℕ) (numbers : List ℕ) : Type 0 where
  pub some : 1 ≤ length numbers
  pub few : length numbers ≤ most
  pub below : All (λ n. n < limit) numbers

-- the numbers in decimal, with commas between them; 44 is the comma
abbrev pub numbers_text : List ℕ → List ℕ
numbers_text numbers = join_with_byte 44 (map decimal numbers)
