-- Believed: the bytes JC4 to JC6 of a message (G.709 Annex D): the remainder in ten bits D1 to D10, D1 the most
-- significant.
use Rattle.std.specs.Prelude.{ℕ, ◌+◌, ◌*◌, ◌/◌, ◌%◌, List, [], ◌∷◌, ◌==◌, nat_lt, ◌&&◌, if◌then◌else◌, Option, Some, None}
use Rattle.crc_small.specs.LongDivision.{crc5_of}

-- D1 to D5 in bits 4 to 8 of JC4, D6 to D10 in those of JC5, and their CRC-5 in those of JC6; bits 1 to 3 are 0
unfoldable pub says_cnd : ℕ → List ℕ
says_cnd d = d / 32 ∷ d % 32 ∷ crc5_of d ∷ []

-- the number in bits 4 to 8 of JC4 and of JC5
abbrev pub cnd_in : (jc4 jc5 : ℕ) → ℕ
cnd_in jc4 jc5 = jc4 % 32 * 32 + jc5 % 32

-- what a tributary of m slots hears: damaged where the CRC-5 is wrong or the remainder is not less than m
unfoldable pub hears_cnd : ℕ → (jc4 jc5 jc6 : ℕ) → Option ℕ
hears_cnd m jc4 jc5 jc6 = let d = cnd_in jc4 jc5 in
    if jc6 % 32 == crc5_of d && nat_lt d m then Some d else None
