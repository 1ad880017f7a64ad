-- Believed: the overhead of an ODU in rows 2 to 4 of a frame.
use Rattle.std.specs.Prelude.{◌≡◌, ℕ, ◌-◌, ◌%◌, ◌==◌, nat_le, ◌&&◌, if◌then◌else◌, List, [], ◌∷◌, length, slice_index}
use Rattle.frame_geometry.specs.declared.overhead.TheConstants.{OPU_COLUMN, PM_ROW, STAT_COLUMN}
use Rattle.otn_base.specs.TrailTrace.{trail_trace}
use Rattle.frame_overhead.specs.Runs.{IsPlace, byte_of}

-- G.709 clause 15.8: row 3, columns 1 to 14. PM stands in columns 10 to 12: a TTI byte, a BIP-8, and a byte of no BEI,
-- no BDI and STAT 001, for a normal path signal.
abbrev pub path_row : (tti bip : ℕ) → List ℕ
path_row tti bip = 0 ∷ 0 ∷ 0 ∷ 0 ∷ 0 ∷ 0 ∷ 0 ∷ 0 ∷ 0 ∷ tti ∷ bip ∷ 1 ∷ 0 ∷ 0 ∷ []

-- the byte in a row and a column of a frame, where another was put: columns 1 to 14 of rows 2 to 4 are 0 but for PM
abbrev pub path_byte : (tti bip row col put : ℕ) → ℕ
path_byte tti bip row col put =
    if nat_le 2 row && nat_le col (OPU_COLUMN - 1)
    then (if row == PM_ROW then slice_index (path_row tti bip) (col - 1) else 0) else put

-- the overhead was written into a frame, and every other byte stayed
pub record HasPath (cols tti bip : ℕ) (put frame : List ℕ) : Type 0 where
  pub size : length frame ≡ length put
  pub byte : (row col : ℕ) → IsPlace cols row col
      → byte_of cols row col frame ≡ path_byte tti bip row col (byte_of cols row col put)

-- G.709 clause 15.2: the same with the trail trace byte of that MFAS
abbrev pub IsOduFrame : (cols : ℕ) → (sapi : List ℕ) → (mfas bip : ℕ) → (put frame : List ℕ) → Type 0
IsOduFrame cols sapi mfas bip put frame = HasPath cols (slice_index (trail_trace sapi) (mfas % 64)) bip put frame

-- G.709 clause 15.8.2.5: STAT, bits 6 to 8 of row 3, column 12
abbrev pub stat_of : (cols : ℕ) → List ℕ → ℕ
stat_of cols frame = byte_of cols PM_ROW STAT_COLUMN frame % 8
