-- Believed: the frames of a client, one after another. Rows, columns and bytes stand where they stand in a frame of
-- 3,824 columns (G.709 clause 12.1).
use Rattle.std.specs.Prelude.{ℕ, zero, suc, ◌+◌, ◌-◌, ◌*◌, ◌/◌, ◌%◌, ◌==◌, nat_le, ◌&&◌, if◌then◌else◌, Bool, List, [], ◌∷◌, ◌++◌, take, drop, map, slice_index}
use Rattle.std.specs.List.{concat, range_with_len}
use Rattle.otn_base.specs.declared.limits.TheConstants.{CLIENT_COLUMNS, CLIENT_FRAME_BYTES, CLIENT_PAYLOAD_BYTES, PAYLOAD_COLUMNS}
use Rattle.frame_geometry.specs.declared.overhead.TheConstants.{FAS, OPU_COLUMN, PAYLOAD_COLUMN, PM_ROW, PSI_COLUMN, PSI_ROW, SECTION_ROW}
use Rattle.otn_base.specs.TrailTrace.{trail_trace}
use Rattle.frame_overhead.specs.TwoBefore.{parity_due, or_zero}
use Rattle.odu_path.specs.Path.{path_row}
use Rattle.gfp_frames.specs.GfpText.{gfp_text}

-- G.709 clauses 15.6.2.1 and 15.6.2.2: the FAS and the MFAS, in columns 1 to 7 of row 1; columns 8 to 14 are 0
abbrev pub alignment_row : (mfas : ℕ) → List ℕ
alignment_row mfas = FAS ++ mfas ∷ 0 ∷ 0 ∷ 0 ∷ 0 ∷ 0 ∷ 0 ∷ 0 ∷ []

-- G.709 clause 15.9.2.1: PSI[0] is the payload type, 05 for GFP; the other 255 bytes are 0
abbrev pub client_psi : (mfas : ℕ) → ℕ
client_psi mfas = if mfas == 0 then 0x05 else 0

-- G.709 clause 17.4: columns 15 and 16 are 0 but for the PSI byte, in row 4, column 15
abbrev pub opu_byte : (mfas row col : ℕ) → ℕ
opu_byte mfas row col = if (row == PSI_ROW) && (col == PSI_COLUMN) then client_psi mfas else 0

-- G.709 clauses 15.6 and 15.8: columns 1 to 14 have the alignment in row 1, path monitoring in row 3, and are 0 in rows
-- 2 and 4
abbrev pub odu_byte : (mfas tti bip row col : ℕ) → ℕ
odu_byte mfas tti bip row col = if row == SECTION_ROW then slice_index (alignment_row mfas) (col - 1)
    else if row == PM_ROW then slice_index (path_row tti bip) (col - 1) else 0

-- the byte in a row and a column of the frame with this MFAS and this PM parity: payload stands in columns 17 to 3824
abbrev pub client_byte : (sapi : List ℕ) → (mfas bip : ℕ) → (payload : List ℕ) → (row col : ℕ) → ℕ
client_byte sapi mfas bip payload row col =
    if nat_le PAYLOAD_COLUMN col then slice_index payload (PAYLOAD_COLUMNS * (row - 1) + (col - PAYLOAD_COLUMN))
    else if nat_le OPU_COLUMN col then opu_byte mfas row col
    else odu_byte mfas (slice_index (trail_trace sapi) (mfas % 64)) bip row col

-- a frame, row by row
unfoldable pub client_frame : (sapi : List ℕ) → (mfas bip : ℕ) → (payload : List ℕ) → List ℕ
client_frame sapi mfas bip payload = map (λ place. client_byte sapi mfas bip payload (place / CLIENT_COLUMNS + 1)
    (place % CLIENT_COLUMNS + 1)) (range_with_len 0 CLIENT_FRAME_BYTES)

-- the first frames, so many, that carry these payload bytes: the MFAS of frame n, from 0, is n mod 256, and it carries
-- the parity of frame n - 2, or 0 where there is none
unfoldable pub client_frames : (sapi : List ℕ) → (count : ℕ) → (payload : List ℕ) → List (List ℕ)
client_frames sapi zero payload = []
client_frames sapi (suc n) payload = let before = client_frames sapi n payload in
    before ++ client_frame sapi (n % 256) (or_zero (parity_due CLIENT_COLUMNS before))
    (take CLIENT_PAYLOAD_BYTES (drop (CLIENT_PAYLOAD_BYTES * n) payload)) ∷ []

-- how many frames begin in the first n bytes of a stream of frames
abbrev pub frames_begun : (n : ℕ) → ℕ
frames_begun n = (n + (CLIENT_FRAME_BYTES - 1)) / CLIENT_FRAME_BYTES

-- how many payload bytes these frames carry
abbrev pub payload_begun : (n : ℕ) → ℕ
payload_begun n = CLIENT_PAYLOAD_BYTES * frames_begun n

-- the first n bytes of a client's stream: frames without end, which carry its packets as a stream of GFP frames (G.709
-- clause 17.4)
unfoldable pub client_stream : (sapi : List ℕ) → (packets : List (List ℕ)) → (fcs : Bool) → (n : ℕ) → List ℕ
client_stream sapi packets fcs n = take n
    (concat (client_frames sapi (frames_begun n) (gfp_text packets fcs (payload_begun n))))

-- n bytes of it, from this place on
abbrev pub stream_part : (sapi : List ℕ) → (packets : List (List ℕ)) → (fcs : Bool) → (from n : ℕ) → List ℕ
stream_part sapi packets fcs from n = drop from (client_stream sapi packets fcs (from + n))
