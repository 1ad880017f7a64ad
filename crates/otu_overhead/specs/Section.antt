-- Believed: the overhead of an OTU2 or OTU3 frame.
use Rattle.std.specs.Prelude.{◌≡◌, ℕ, ◌+◌, ◌-◌, ◌%◌, ◌==◌, Bool, nat_le, ◌&&◌, if◌then◌else◌, List, [], ◌∷◌, ◌++◌, length, slice_index}
use Rattle.otn_base.specs.declared.limits.TheConstants.{LINE_COLUMNS}
use Rattle.frame_geometry.specs.declared.overhead.TheConstants.{FAS, FAS_COLUMN, FEC_COLUMN, OPU_COLUMN, SECTION_ROW, SM_BIP8_COLUMN}
use Rattle.otn_base.specs.TrailTrace.{trail_trace}
use Rattle.frame_overhead.specs.Runs.{IsPlace, byte_of}
use Rattle.frame_overhead.specs.TwoBefore.{Checked, HasChecked}
use Rattle.otn_base.specs.Counts.{saturated}

-- G.709 clauses 15.6 and 15.7: row 1, columns 1 to 14, of a frame with this MFAS: the FAS, the MFAS, SM of a TTI byte
-- and a BIP-8 with no BEI, BDI and IAE, GCC0 and two reserved bytes
abbrev pub section_row : (mfas tti bip : ℕ) → List ℕ
section_row mfas tti bip = FAS ++ mfas ∷ tti ∷ bip ∷ 0 ∷ 0 ∷ 0 ∷ 0 ∷ 0 ∷ []

-- the byte in a row and a column of a line's frame, where another was put: columns 3825 to 4080 of all rows hold no
-- FEC, but 0
abbrev pub otu_byte : (mfas tti bip row col put : ℕ) → ℕ
otu_byte mfas tti bip row col put =
    if (row == SECTION_ROW) && nat_le col (OPU_COLUMN - 1) then slice_index (section_row mfas tti bip) (col - 1)
    else (if nat_le FEC_COLUMN col then 0 else put)

-- the overhead was written into a frame, and every other byte stayed
pub record HasSection (mfas tti bip : ℕ) (put frame : List ℕ) : Type 0 where
  pub size : length frame ≡ length put
  pub byte : (row col : ℕ) → IsPlace LINE_COLUMNS row col
      → byte_of LINE_COLUMNS row col frame ≡ otu_byte mfas tti bip row col (byte_of LINE_COLUMNS row col put)

-- G.709 clause 15.2: the same with the trail trace byte of that MFAS
abbrev pub IsOtuFrame : (sapi : List ℕ) → (mfas bip : ℕ) → (put frame : List ℕ) → Type 0
IsOtuFrame sapi mfas bip put frame = HasSection mfas (slice_index (trail_trace sapi) (mfas % 64)) bip put frame

-- G.709 clause 15.6.2.1: whether columns 1 to 6 of row 1 are the FAS
abbrev pub has_fas : List ℕ → Bool
has_fas frame =
    let is = λ (k : ℕ). byte_of LINE_COLUMNS SECTION_ROW (FAS_COLUMN + k) frame == slice_index FAS k in
    is 0 && (is 1 && (is 2 && (is 3 && (is 4 && is 5))))

-- 1 where a frame has a wrong FAS, else 0
abbrev pub fas_wrong : List ℕ → ℕ
fas_wrong frame = if has_fas frame then 0 else 1

-- how many frames have a wrong FAS
unfoldable pub wrong_fas : List (List ℕ) → ℕ
wrong_fas [] = 0
wrong_fas (frame ∷ frames) = fas_wrong frame + wrong_fas frames

-- what is kept of the frames that were taken: how many have a wrong FAS, and their parities
pub record Taken : Type 0 where
  pub fas : ℕ
  pub sm : Checked

-- These frames were taken. The SM parity stands in row 1, column 9.
pub record HasTaken (frames : List (List ℕ)) (taken : Taken) : Type 0 where
  pub fas : taken.fas ≡ saturated (wrong_fas frames)
  pub sm : HasChecked LINE_COLUMNS SECTION_ROW SM_BIP8_COLUMN frames taken.sm
