-- Believed: the frames of a line, in the order in which their bytes come. The bytes are those of the line's file,
-- through its mask.
use Rattle.std.specs.Prelude.{ℕ, zero, suc, ◌*◌, ◌/◌, List, [], ◌∷◌, ◌++◌, length, take, drop, slice_index}
use Rattle.otn_base.specs.declared.limits.TheConstants.{LINE_COLUMNS, LINE_FRAME_BYTES}
use Rattle.frame_geometry.specs.Places.{place_of}
use Rattle.frame_geometry.specs.declared.overhead.TheConstants.{SECTION_ROW, MFAS_COLUMN}

-- G.709 clause 11.1: frame f, from 0
unfoldable pub frame_at : List ℕ → ℕ → List ℕ
frame_at bytes f = take LINE_FRAME_BYTES (drop (LINE_FRAME_BYTES * f) bytes)

-- G.709 clause 15.6.2.2: the MFAS of a frame
abbrev pub frame_mfas : List ℕ → ℕ
frame_mfas frame = slice_index frame (place_of LINE_COLUMNS SECTION_ROW MFAS_COLUMN)

-- how many whole frames these bytes have, the MFAS bytes of the first n, these frames, and the MFAS bytes of all
abbrev pub whole_frames : List ℕ → ℕ
whole_frames bytes = length bytes / LINE_FRAME_BYTES

unfoldable pub first_mfas : List ℕ → ℕ → List ℕ
first_mfas bytes zero = []
first_mfas bytes (suc n) = first_mfas bytes n ++ frame_mfas (frame_at bytes n) ∷ []

unfoldable pub first_frames : List ℕ → ℕ → List (List ℕ)
first_frames bytes zero = []
first_frames bytes (suc n) = first_frames bytes n ++ frame_at bytes n ∷ []

abbrev pub mfas_of : List ℕ → List ℕ
mfas_of bytes = first_mfas bytes (whole_frames bytes)
