-- Believed: the mask of a scrambled line.
use Rattle.std.specs.Prelude.{ℕ, zero, suc, ◌+◌, ◌-◌, ◌*◌, ◌%◌, nat_le, Bool, if◌then◌else◌, List, ◌∷◌, length, map, replicate, slice_index}
use Rattle.std.specs.List.{range_with_len}
use Rattle.otn_base.specs.declared.limits.TheConstants.{LINE_FRAME_BYTES}
use Rattle.frame_geometry.specs.declared.overhead.TheConstants.{FAS}

-- G.709 clause 11.2: the bit of the sequence of 1 + x + x^3 + x^12 + x^16 that follows others, which are listed the
-- last one first: the sum, modulo 2, of those that are 1, 3, 12 and 16 before it
abbrev pub bit_after : (back : List ℕ) → ℕ
bit_after back = (slice_index back 0 + slice_index back 2 + slice_index back 11 + slice_index back 15) % 2

-- G.709 clause 11.2: the first 16 + n bits of the sequence, the last one first. It begins with sixteen ones.
unfoldable pub sequence_back : (n : ℕ) → List ℕ
sequence_back zero = replicate 16 1
sequence_back (suc n) = bit_after (sequence_back n) ∷ sequence_back n

-- G.709 clause 11.2: bit i of the sequence, from 0
abbrev pub sequence_bit : (i : ℕ) → ℕ
sequence_bit i = slice_index (sequence_back i) 15

-- so many bits from bit i on, as a number, the first most significant
unfoldable pub bits_from : (i count : ℕ) → ℕ
bits_from i zero = 0
bits_from i (suc count) = bits_from i count * 2 + sequence_bit (i + count)

-- G.709 clause 11.2: the byte of the mask at a place of a frame, from 0. The FAS, six bytes, is not scrambled; the
-- sequence begins behind it, in each frame anew.
abbrev pub mask_byte : (place : ℕ) → ℕ
mask_byte place = if nat_le (length FAS) place then bits_from (8 * (place - length FAS)) 8 else 0

-- the mask of a line, which is all 0 where the line is plain
unfoldable pub mask : (scrambled : Bool) → List ℕ
mask scrambled = map (λ place. if scrambled then mask_byte place else 0) (range_with_len 0 LINE_FRAME_BYTES)
