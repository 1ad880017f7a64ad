-- Steps of `look_up`: look-ups in tables of 256 numbers.
use Rattle.std.specs.Prelude.{ℕ, ◌/◌, ◌%◌, ◌^◌, List, slice_index, bit_xor}

-- what four tables have for the four bytes of a word, the first for the most significant byte, added up
abbrev pub looked_up : (four three two one : List ℕ) → ℕ → ℕ
looked_up four three two one word =
    bit_xor (bit_xor (bit_xor (slice_index four (word / 2 ^ 24)) (slice_index three (word / 2 ^ 16 % 2 ^ 8)))
    (slice_index two (word / 2 ^ 8 % 2 ^ 8))) (slice_index one (word % 2 ^ 8))
