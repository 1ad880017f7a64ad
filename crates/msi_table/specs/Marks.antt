-- Believed: when the multiplex structure that a slot tells is another than its ODTU's.
use Rattle.std.specs.Prelude.{◌≡◌, ℕ, ◌+◌, ◌-◌, ◌==◌, Bool, false, not, ◌&&◌, List, [], ◌∷◌, reverse}

-- G.709 clause 19.4.1: the MSI byte of a slot that an ODTU2.ts, or an ODTU3.ts, of this tributary port uses
abbrev pub msi_byte : (port : ℕ) → ℕ
msi_byte port = 0x80 + port - 1

-- whether the first of some bytes is another, and whether the first two are
abbrev pub first_wrong : (right : ℕ) → List ℕ → Bool
first_wrong right [] = false
first_wrong right (x ∷ rest) = not (x == right)

abbrev pub both_wrong : (right : ℕ) → List ℕ → Bool
both_wrong right (x ∷ y ∷ rest) = not (x == right) && not (y == right)
both_wrong right other = false

-- A slot is marked where the last two of its MSI bytes, which are listed as they came, were both wrong.
abbrev pub is_marked : (port : ℕ) → List ℕ → Bool
is_marked port read = both_wrong (msi_byte port) (reverse read)

-- what is kept of the bytes that came
pub record Watch : Type 0 where
  pub right : ℕ
  pub last_wrong : Bool
  pub marked : Bool

-- These MSI bytes came, in this order, of a slot that an ODTU of this port uses.
pub record HasTaken (port : ℕ) (read : List ℕ) (watch : Watch) : Type 0 where
  pub right_is : watch.right ≡ msi_byte port
  pub last_is : watch.last_wrong ≡ first_wrong (msi_byte port) (reverse read)
  pub marked_is : watch.marked ≡ is_marked port read
