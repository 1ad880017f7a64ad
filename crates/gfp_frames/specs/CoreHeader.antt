-- Believed: the core header of a GFP frame: the payload length indicator PLI and its check cHEC.
use Rattle.std.specs.Prelude.{ℕ, zero, suc, ◌+◌, ◌*◌, ◌/◌, ◌%◌, ◌^◌, ◌==◌, List, [], ◌∷◌, nat_lt, if◌then◌else◌, Option, None, Some, length, slice_index, bit_xor}
use Rattle.crc_small.specs.LongDivision.{crc16_of}

-- a number of 16 bits as bytes, the most significant first
abbrev pub two_bytes : ℕ → List ℕ
two_bytes n = n / 2 ^ 8 ∷ n % 2 ^ 8 ∷ []

-- a number of 32 bits as bytes, the most significant first
abbrev pub four_bytes : ℕ → List ℕ
four_bytes n = n / 2 ^ 24 ∷ n / 2 ^ 16 % 2 ^ 8 ∷ n / 2 ^ 8 % 2 ^ 8 ∷ n % 2 ^ 8 ∷ []

-- the number that two bytes are, the most significant first
abbrev pub number_of_two : (a b : ℕ) → ℕ
number_of_two a b = a * 2 ^ 8 + b

-- the number that four bytes are, the most significant first
abbrev pub number_of_four : (a b c d : ℕ) → ℕ
number_of_four a b c d = a * 2 ^ 24 + b * 2 ^ 16 + c * 2 ^ 8 + d

-- G.7041 clause 6.1.1.1: PLI 0 to 3 are control frames of four bytes; a PLI from 4 on is the length of the payload
-- area.
abbrev pub area_size : ℕ → ℕ
area_size pli = if nat_lt pli 4 then 0 else pli

-- G.7041 clause 6.1.1.3: a core header is XORed with this pattern on the way.
abbrev pub pattern : ℕ
pattern = 0xB6AB31E0

-- G.7041 clause 6.1.1.2: the cHEC is the CRC-16 of the two bytes of the PLI.
unfoldable pub core_header : ℕ → List ℕ
core_header pli = four_bytes (bit_xor (pli * 2 ^ 16 + crc16_of (two_bytes pli)) pattern)

-- the header that stands at the front of a list of four or more bytes, without the pattern
abbrev pub header_in : List ℕ → ℕ
header_in bytes = bit_xor (number_of_four (slice_index bytes 0) (slice_index bytes 1) (slice_index bytes 2)
    (slice_index bytes 3)) pattern

-- the PLI of a header whose cHEC is right
unfoldable pub right_pli : ℕ → Option ℕ
right_pli header = if crc16_of (two_bytes (header / 2 ^ 16)) == header % 2 ^ 16 then Some (header / 2 ^ 16) else None

-- the first of two answers that there is
abbrev pub first_of : Option ℕ → Option ℕ → Option ℕ
first_of (Some pli) other = Some pli
first_of None other = other

-- the PLI of a right header that differs from this one in exactly one of its last n bits
unfoldable pub turned_pli : (n header : ℕ) → Option ℕ
turned_pli zero header = None
turned_pli (suc n) header = first_of (right_pli (bit_xor header (2 ^ n))) (turned_pli n header)

-- G.7041 clause 6.1.1.2.1: one wrong bit of a header is corrected, and the corrected PLI counts. At most one right
-- header lies that near, so the order makes no difference.
unfoldable pub near_pli : ℕ → Option ℕ
near_pli header = first_of (right_pli header) (turned_pli 32 header)

-- the PLI of the header at the front of a list, right as it stands
unfoldable pub right_at : List ℕ → Option ℕ
right_at bytes = if nat_lt (length bytes) 4 then None else right_pli (header_in bytes)

-- the PLI of the header at the front of a list, right but for one bit at most
unfoldable pub near_at : List ℕ → Option ℕ
near_at bytes = if nat_lt (length bytes) 4 then None else near_pli (header_in bytes)
