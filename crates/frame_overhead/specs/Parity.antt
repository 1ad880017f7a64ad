-- Believed: the BIP-8 parity of a frame.
use Rattle.std.specs.Prelude.{ℕ, ◌+◌, ◌-◌, List, ◌++◌, take, drop, fold, bit_xor}
use Rattle.otn_base.specs.declared.limits.TheConstants.{LAST_PAYLOAD_COLUMN}
use Rattle.frame_geometry.specs.declared.overhead.TheConstants.{OPU_COLUMN}
use Rattle.frame_geometry.specs.Places.{place_of}

-- G.709 clauses 15.7.2.1 and 15.8.2.1: the OPU area of a row, columns 15 to 3824
abbrev pub opu_row_of : (cols row : ℕ) → List ℕ → List ℕ
opu_row_of cols row frame = take (LAST_PAYLOAD_COLUMN + 1 - OPU_COLUMN) (drop (place_of cols row OPU_COLUMN) frame)

-- the OPU area of all four rows
abbrev pub opu_of : (cols : ℕ) → List ℕ → List ℕ
opu_of cols frame = opu_row_of cols 1 frame
    ++ (opu_row_of cols 2 frame ++ (opu_row_of cols 3 frame ++ opu_row_of cols 4 frame))

-- G.709 clauses 15.7.2.1 and 15.8.2.1: the BIP-8 of a frame, each bit of which makes the number of ones among the bits
-- of its place in the bytes of the OPU area even
unfoldable pub parity_of : (cols : ℕ) → List ℕ → ℕ
parity_of cols frame = fold bit_xor 0 (opu_of cols frame)
