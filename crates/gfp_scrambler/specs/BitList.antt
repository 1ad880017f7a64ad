-- API: the self-synchronous scrambler x^43 + 1, as one list of bits.
use Rattle.std.specs.Prelude.{◌≡◌, ℕ, ◌+◌, ◌-◌, ◌*◌, ◌/◌, ◌%◌, ◌<◌, nat_lt, List, if◌then◌else◌, length, slice_index}
use Rattle.std.specs.Int.{bit_at}

-- bit i of a list of bytes: the most significant bit of a byte comes first
abbrev pub bit_of : List ℕ → ℕ → ℕ
bit_of bytes i = bit_at (slice_index bytes (i / 8)) (7 - i % 8)

-- the bit 43 places before bit i, and 0 where the list has not begun there
abbrev pub bit_before : List ℕ → ℕ → ℕ
bit_before bytes i = if nat_lt i 43 then 0 else bit_of bytes (i - 43)

-- every number of the list is a byte
abbrev pub AreBytes : List ℕ → Type 0
AreBytes bytes = (k : ℕ) → slice_index bytes k < 256

-- G.7041 clause 6.1.2.3: each bit sent is the plain bit plus, modulo 2, the bit that was sent 43 before it.
pub record IsScrambled (plain sent : List ℕ) : Type 0 where
  pub size : length sent ≡ length plain
  pub each : (i : ℕ) → i < 8 * length plain → bit_of sent i ≡ (bit_of plain i + bit_before sent i) % 2

-- The receiver: each plain bit is the bit that came plus, modulo 2, the bit that came 43 before it.
pub record IsDescrambled (got plain : List ℕ) : Type 0 where
  pub size : length plain ≡ length got
  pub each : (i : ℕ) → i < 8 * length got → bit_of plain i ≡ (bit_of got i + bit_before got i) % 2
