-- Steps of `begin`, `front32` and others: bytes of a message that are folded into later ones. x^(8 * 93) is the sum of
-- x^(8 * c) for nine numbers c, divided by the generator 04C11DB7: so the remainder stays where a byte is left out and
-- added to the bytes at nine places behind it.
use Rattle.std.specs.Prelude.{ℕ, zero, suc, ◌+◌, List, [], ◌∷◌, bit_xor}
use Rattle.crc_small.specs.Steps.Shifted.{after_byte}

-- the register after n bytes of a stream, from byte i on
unfoldable pub after_some : (ℕ → ℕ) → (i n : ℕ) → ℕ → ℕ
after_some g i zero r = r
after_some g i (suc n) r = after_byte 31 0x104C11DB7 (after_some g i n r) (g (i + n))

-- some numbers, added up bit by bit
unfoldable pub sum_at : (ℕ → ℕ) → List ℕ → ℕ
sum_at f [] = 0
sum_at f (c ∷ cs) = bit_xor (f c) (sum_at f cs)

-- the nine numbers
abbrev pub places : List ℕ
places = 29 ∷ 0 ∷ 16 ∷ 18 ∷ 50 ∷ 12 ∷ 58 ∷ 74 ∷ 77 ∷ []

-- the register that 93 folded bytes of a stream stand for, from byte i on
unfoldable pub pending : (ℕ → ℕ) → ℕ → ℕ
pending g i = bit_xor (after_some g i 93 0) (sum_at (λ c. after_some g i c 0) places)
