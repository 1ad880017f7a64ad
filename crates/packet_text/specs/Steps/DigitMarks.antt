-- Steps of `values`, `decode_block` and others: what private contracts alone cite.
use Rattle.std.specs.Prelude.{ℕ, ◌≡◌, ◌<◌, ◌≤◌, ◌+◌, ◌-◌, ◌*◌, ◌/◌, ◌%◌, ◌^◌, nat_lt, if◌then◌else◌, List, [], ◌∷◌, ◌++◌, take, drop, Ok, Err, slice_index, bit_and, bit_or}
use Rattle.hex.specs.Hex.{pair_value, encode_lower}
use Rattle.hex.specs.declared.error.FromHexError.{FromHexError}

-- a vector of sixteen bytes, lane by lane
abbrev pub sixteen : (ℕ → ℕ) → List ℕ
sixteen f = f 0 ∷ f 1 ∷ f 2 ∷ f 3 ∷ f 4 ∷ f 5 ∷ f 6 ∷ f 7 ∷ f 8 ∷ f 9 ∷ f 10 ∷ f 11 ∷ f 12 ∷ f 13 ∷ f 14 ∷ f 15 ∷ []

-- lanes 0 to 7 of two vectors, in turn
abbrev pub in_turn : (f g : ℕ → ℕ) → List ℕ
in_turn f g = f 0 ∷ g 0 ∷ f 1 ∷ g 1 ∷ f 2 ∷ g 2 ∷ f 3 ∷ g 3 ∷ f 4 ∷ g 4 ∷ f 5 ∷ g 5 ∷ f 6 ∷ g 6 ∷ f 7 ∷ g 7 ∷ []

-- the bytes of a list from a place on, counted from 0
unfoldable pub bytes_from : List ℕ → (at : ℕ) → ℕ → ℕ
bytes_from xs at i = slice_index xs (at + i)

-- a byte less another, modulo 256
abbrev pub byte_less : (a b : ℕ) → ℕ
byte_less a b = (a + (256 - b)) % 256

-- the larger of two numbers, and the smaller
abbrev pub larger : (a b : ℕ) → ℕ
larger a b = if nat_lt a b then b else a

abbrev pub smaller : (a b : ℕ) → ℕ
smaller a b = if nat_lt a b then a else b

-- of a numeral its value, and of another byte 16 or more
abbrev pub numeral_worth : ℕ → ℕ
numeral_worth byte = byte_less (byte_less (larger ((byte + 198) % 256) 6) 6) 240

-- of a letter from A to F, in either case, its value, and of another byte 16 or more
abbrev pub letter_worth : ℕ → ℕ
letter_worth byte = (bit_and (byte_less byte 65) 223 + 10) % 256

-- of a digit its value, and of another byte 16 or more
unfoldable pub worth : ℕ → ℕ
worth byte = if nat_lt byte 256 then smaller (numeral_worth byte) (letter_worth byte) else 255

-- the byte whose digits have these values
abbrev pub byte_of : (high low : ℕ) → ℕ
byte_of high low = bit_or (high * 16 % 256) (bit_and low 15)

-- byte i of the upper half of two values as a word of 16 bits, multiplied by 4,097: byte 0 is what they say
abbrev pub pair_lane : (high low i : ℕ) → ℕ
pair_lane high low i = (high + 256 * low) * 4097 % 65536 / 256 / 256 ^ i % 256

-- two bytes are digits, and say this byte, wherever they stand
pub record IsPair (high low byte : ℕ) : Type 0 where
  pub at : (place : ℕ) → pair_value high low place ≡ Ok byte

-- two bytes are not both digits, wherever they stand
pub record IsRefused (high low : ℕ) : Type 0 where
  pub at : (place : ℕ) → (e : FromHexError) × (pair_value high low place ≡ Err e)

-- one of the first pairs is refused
pub record HasRefused (digits : List ℕ) (pairs : ℕ) : Type 0 where
  pub pair : ℕ
  pub below : pair < pairs
  pub refused : IsRefused (slice_index digits (2 * pair)) (slice_index digits (2 * pair + 1))

-- all lanes are below 16
pub record AllSmall (lanes : List ℕ) : Type 0 where
  pub at : (i : ℕ) → i < 16 → slice_index lanes i < 16

-- a lane is 16 or more
pub record HasLarge (lanes : List ℕ) : Type 0 where
  pub lane : ℕ
  pub below : lane < 16
  pub large : 16 ≤ slice_index lanes lane

-- the digits of the first bytes stand, and behind them those of the others are to come
pub record Put (packet digits : List ℕ) (count : ℕ) : Type 0 where
  pub front : take (2 * count) digits ++ encode_lower (drop count packet) ≡ encode_lower packet
