-- Believed: the remainder of long division over bits. A polynomial is the number whose bits are its coefficients, so
-- x^8 + x^3 + x^2 + 1 is 0x10D. A bit list has its first bit first, and a byte's first bit is its most significant one.
use Rattle.std.specs.Prelude.{ℕ, zero, suc, ◌+◌, ◌-◌, ◌*◌, ◌/◌, ◌%◌, ◌^◌, List, [], ◌∷◌, ◌++◌, fold, flat_map, replicate, bit_xor}

-- one step: bring down the next bit, and take the generator off where it goes in
abbrev pub bring_down : (degree generator : ℕ) → ℕ → ℕ → ℕ
bring_down degree generator r bit = let s = 2 * r + bit in bit_xor s (s / 2 ^ degree * generator)

-- what is left of a bit list divided by a generator
unfoldable pub remainder_from : (degree generator : ℕ) → ℕ → List ℕ → ℕ
remainder_from degree generator r bits = fold (bring_down degree generator) r bits

-- the check of a bit list: the remainder of the list followed by as many zeros as the degree
unfoldable pub check_of : (degree generator : ℕ) → List ℕ → ℕ
check_of degree generator bits = remainder_from degree generator 0 (bits ++ replicate degree 0)

-- the low n bits of a number, the most significant first
unfoldable pub low_bits : ℕ → ℕ → List ℕ
low_bits zero x = []
low_bits (suc n) x = x / 2 ^ n % 2 ∷ low_bits n x

-- the bits of a list of bytes
unfoldable pub bits_of : List ℕ → List ℕ
bits_of bytes = flat_map (low_bits 8) bytes

-- G.709 Annex D: the CRC-8 of JC1 and JC2, by x^8 + x^3 + x^2 + 1
unfoldable pub crc8_of : List ℕ → ℕ
crc8_of bytes = check_of 8 0x10D (bits_of bytes)

-- G.709 Annex D: the CRC-5 of the ten bits D1 to D10, by x^5 + x + 1
unfoldable pub crc5_of : ℕ → ℕ
crc5_of d = check_of 5 0x23 (low_bits 10 d)

-- G.7041 clause 6.1.1.2: the CRC-16 of a header's bytes, by x^16 + x^12 + x^5 + 1
unfoldable pub crc16_of : List ℕ → ℕ
crc16_of bytes = check_of 16 0x11021 (bits_of bytes)

-- the first k bits inverted
unfoldable pub inverted : ℕ → List ℕ → List ℕ
inverted zero bits = bits
inverted (suc k) [] = []
inverted (suc k) (bit ∷ bits) = (1 - bit) ∷ inverted k bits

-- G.7041 clause 6.1.2.2.1: the CRC-32 of the frame check sequence, whose first 32 bits are inverted before
-- and whose remainder is inverted after, by the generator 04C11DB7 of degree 32
unfoldable pub crc32_of : List ℕ → ℕ
crc32_of bytes = bit_xor (remainder_from 32 0x104C11DB7 0 (inverted 32 (bits_of bytes ++ replicate 32 0))) 0xFFFFFFFF
