-- API: a GFP header of four bytes, as the number of 32 bits whose most significant byte is the first one.
use Rattle.std.specs.Prelude.{◌≡◌, ℕ, ◌/◌, ◌%◌, ◌^◌, ◌<◌, ◌⊎◌, [], ◌∷◌, bit_xor}
use Rattle.crc_small.specs.LongDivision.{crc16_of}

-- G.7041 clause 6.1.1: two bytes of a length, and then the CRC-16 of these two
abbrev pub IsRightHeader : ℕ → Type 0
IsRightHeader header = (header < 2 ^ 32) × (crc16_of (header / 2 ^ 24 ∷ header / 2 ^ 16 % 2 ^ 8 ∷ []) ≡ header % 2 ^ 16)

-- two headers that differ in no bit, or in one
abbrev pub IsWithinOneBit : ℕ → ℕ → Type 0
IsWithinOneBit one other = (one ≡ other) ⊎ ((place : ℕ) × (place < 32) × (bit_xor one other ≡ 2 ^ place))
