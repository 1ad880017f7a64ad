-- Believed: the scrambler as a register of the last 43 bits, the latest the least significant.
use Rattle.std.specs.Prelude.{◌≡◌, ℕ, ◌+◌, ◌*◌, ◌/◌, ◌%◌, ◌^◌, List, [], ◌∷◌, bit_xor}
use Rattle.gfp_scrambler.specs.BitList.{AreBytes, IsScrambled, IsDescrambled}

-- the last 43 bits after one byte more
abbrev pub shifted : ℕ → ℕ → ℕ
shifted register byte = register % 2 ^ 35 * 256 + byte

-- the last 43 bits after these bytes more
unfoldable pub last_bits : ℕ → List ℕ → ℕ
last_bits register [] = register
last_bits register (byte ∷ bytes) = last_bits (shifted register byte) bytes

-- what is sent for these plain bytes, after these last bits
unfoldable pub scrambled : ℕ → List ℕ → List ℕ
scrambled register [] = []
scrambled register (byte ∷ plain) =
    let sent = bit_xor byte (register / 2 ^ 35) in sent ∷ scrambled (shifted register sent) plain

-- the plain bytes of these that came, after these last bits
unfoldable pub descrambled : ℕ → List ℕ → List ℕ
descrambled register [] = []
descrambled register (byte ∷ got) = bit_xor byte (register / 2 ^ 35) ∷ descrambled (shifted register byte) got

-- since it was new a scrambler took these plain bytes and sent these
pub record HasSent (plain sent : List ℕ) (register : ℕ) : Type 0 where
  pub rule : IsScrambled plain sent
  pub bytes : AreBytes sent
  pub last : register ≡ last_bits 0 sent

-- since it was new a descrambler took these bytes and gave these plain ones
pub record HasTaken (got plain : List ℕ) (register : ℕ) : Type 0 where
  pub rule : IsDescrambled got plain
  pub bytes : AreBytes got
  pub last : register ≡ last_bits 0 got
