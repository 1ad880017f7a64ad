-- Believed: the payload structure identifier of a line, by the tributary ports that use its slots.
use Rattle.std.specs.Prelude.{◌≡◌, ℕ, ◌+◌, ◌-◌, ◌≤◌, ◌==◌, nat_le, ◌&&◌, if◌then◌else◌, List, length, Contains, slice_index}
use Rattle.msi_table.specs.Marks.{msi_byte}

-- The ports of the slots 1, 2 and so on of a line are listed, 0 for a slot that is free. This is the port of one slot.
abbrev pub port_at : (ports : List ℕ) → (slot : ℕ) → ℕ
port_at ports slot = slice_index ports (slot - 1)

-- G.709 clause 19.4.1: the MSI byte of a slot that the ODTU of this port uses, or of a free slot
abbrev pub slot_msi : (port : ℕ) → ℕ
slot_msi port = if port == 0 then 0xC0 else msi_byte port

-- G.709 clauses 15.9.2.1 and 19.4.1: the PSI byte of the frame with this MFAS. PSI[0] is the payload type 21, PSI[1 +
-- k] the MSI byte of slot k, and every other one 0.
abbrev pub psi_of : (ports : List ℕ) → (mfas : ℕ) → ℕ
psi_of ports mfas = if mfas == 0 then 0x21 else
    (if nat_le 2 mfas && nat_le mfas (length ports + 1) then slot_msi (port_at ports (mfas - 1)) else 0)

-- these slots, and no others, were given to a port, or to none where it is 0
pub record IsGiven (slots : List ℕ) (port : ℕ) (old new : List ℕ) : Type 0 where
  pub given : (slot : ℕ) → Contains slots slot → port_at new slot ≡ port
  pub others : (slot : ℕ) → 1 ≤ slot → (Contains slots slot → ⊥) → port_at new slot ≡ port_at old slot
