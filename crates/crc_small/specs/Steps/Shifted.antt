-- Steps of `begin`, `front32` and others: a register that takes its bits in at the top.
use Rattle.std.specs.Prelude.{ℕ, suc, ◌*◌, ◌/◌, ◌%◌, ◌^◌, fold, bit_xor}
use Rattle.crc_small.specs.LongDivision.{bring_down, low_bits}

-- a bit taken in at the top of a register of m + 1 bits
unfoldable pub take_in : (m g : ℕ) → ℕ → ℕ → ℕ
take_in m g c b = bring_down (suc m) g (bit_xor c (b * 2 ^ m)) 0

-- a byte's bits taken in, one after another
unfoldable pub after_byte : (m g : ℕ) → ℕ → ℕ → ℕ
after_byte m g c x = fold (take_in m g) c (low_bits 8 x)

-- a word's four bytes taken in, the most significant one first
unfoldable pub after_word : (m g : ℕ) → ℕ → ℕ → ℕ
after_word m g c x =
    let after = after_byte m g in after (after (after (after c (x / 2 ^ 24)) (x / 2 ^ 16 % 2 ^ 8)) (x / 2 ^ 8 % 2 ^ 8))
    (x % 2 ^ 8)

-- five bits taken in by the register of the check of 5 bits
unfoldable pub after_five : ℕ → ℕ → ℕ
after_five c x = fold (take_in 4 0x23) c (low_bits 5 x)
