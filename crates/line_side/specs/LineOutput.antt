-- Believed: the frames of a line that is put out, and its file.
use Rattle.std.specs.Prelude.{◌≡◌, ℕ, ◌+◌, ◌*◌, ◌/◌, ◌%◌, ◌==◌, ◌&&◌, if◌then◌else◌, List, [], ◌∷◌, ◌++◌, length, slice_index, ⊤}
use Rattle.std.specs.List.{concat}
use Rattle.otn_base.specs.TrailTrace.{trail_trace}
use Rattle.otn_base.specs.declared.limits.TheConstants.{LINE_COLUMNS, LINE_FRAME_BYTES}
use Rattle.port_base.specs.Given.{Gained}
use Rattle.port_base.specs.Sent.{IsSent}
use Rattle.port_base.specs.Views.{State, Empty, OutView}
use Rattle.frame_geometry.specs.declared.overhead.TheConstants.{PSI_ROW, PSI_COLUMN}
use Rattle.frame_overhead.specs.Runs.{IsPlace, byte_of}
use Rattle.frame_overhead.specs.TwoBefore.{Kept, HasSent, parity_due, or_zero}
use Rattle.msi_table.specs.Psi.{psi_of}
use Rattle.odu_path.specs.Path.{path_byte}
use Rattle.otu_overhead.specs.Section.{otu_byte}
use Rattle.line_side.specs.LineForm.{LineForm, through_mask}
use Rattle.line_side.specs.declared.waiting.TheConstants.{FRAMES_TOGETHER}
use Rattle.otn_base.specs.Counts.{saturated}

-- G.709 clause 15.2: the source access point identifier of line n, 0 to 3, in SM and PM, which is LINE-n, and its trail
-- trace byte in the frame with this MFAS
abbrev pub line_sapi : (n : ℕ) → List ℕ
line_sapi n = 76 ∷ 73 ∷ 78 ∷ 69 ∷ 45 ∷ (48 + n) ∷ []

abbrev pub line_tti : (n mfas : ℕ) → ℕ
line_tti n mfas = slice_index (trail_trace (line_sapi n)) (mfas % 64)

-- what is put into a frame of a line before its overhead: the frame's MFAS, the tributary port of each of the line's
-- slots, 0 for a free one, and the bytes
pub record FramePut : Type 0 where
  pub mfas : ℕ
  pub ports : List ℕ
  pub bytes : List ℕ

-- G.709 clause 15.9.2.1: the PSI byte stands in row 4, column 15
abbrev pub psi_byte_at : (ports : List ℕ) → (mfas row col byte : ℕ) → ℕ
psi_byte_at ports mfas row col byte = if (row == PSI_ROW) && (col == PSI_COLUMN) then psi_of ports mfas else byte

-- The byte of line n in a row and a column of a frame that carries this BIP-8, where a byte was put: section overhead
-- and the columns of the FEC, path overhead, and the PSI byte by the ports of the slots. Every other byte is as it was
-- put.
abbrev pub line_byte : (n bip : ℕ) → FramePut → (row col byte : ℕ) → ℕ
line_byte n bip put row col byte = otu_byte put.mfas (line_tti n put.mfas) bip row col
    (path_byte (line_tti n put.mfas) bip row col (psi_byte_at put.ports put.mfas row col byte))

-- the frame of line n that carries this BIP-8, in which this was put
pub record IsLineFrame (n bip : ℕ) (put : FramePut) (frame : List ℕ) : Type 0 where
  pub size : length frame ≡ LINE_FRAME_BYTES
  pub byte : (row col : ℕ) → IsPlace LINE_COLUMNS row col
      → byte_of LINE_COLUMNS row col frame ≡ line_byte n bip put row col (byte_of LINE_COLUMNS row col put.bytes)

-- The frames of line n in which these were put, one after the other, behind others that went before. G.709 clauses
-- 15.7.2.1 and 15.8.2.1: each carries the parity of the frame two before it, 0 where there is none.
abbrev pub AreLineFrames : (n : ℕ) → (before : List (List ℕ)) → (puts : List FramePut) → (frames : List (List ℕ))
    → Type 0
AreLineFrames n before [] [] = ⊤
AreLineFrames n before (put ∷ puts) (frame ∷ frames) = IsLineFrame n
    (or_zero (parity_due LINE_COLUMNS before)) put frame × AreLineFrames n (before ++ frame ∷ []) puts frames
AreLineFrames n before puts frames = ⊥

-- what is seen of an output line: what is fixed of it, its identifier, the frame to come, what its writers keep, the
-- bytes of the frames that wait to be written, and how many frames count
pub record LineOutView : Type 0 where
  pub form : LineForm
  pub sapi : List ℕ
  pub frame : List ℕ
  pub section : Kept
  pub path : Kept
  pub waiting : List ℕ
  pub frames : ℕ

-- how many frames count of those that were made: all on an empty place, else those that went out whole
abbrev pub counted_frames : State → (made : List (List ℕ)) → (written : List ℕ) → ℕ
counted_frames Empty made written = length made
counted_frames other made written = length written / LINE_FRAME_BYTES

-- how many frames a call counts that made one, by what went out in it: on an empty place that one, else those that
-- went out whole
abbrev pub counted_now : State → (written : List ℕ) → ℕ
counted_now Empty written = 1
counted_now other written = length written / LINE_FRAME_BYTES

-- a call that made a frame has counted so many more
pub record CountsFrames (was is : OutView) (before after : ℕ) : Type 0 where
  pub written : List ℕ
  pub gained : Gained was written is
  pub counted : after ≡ saturated (before + counted_now was.state written)

-- Line n of this form has made the frames in which these were put. The line's file is these frames, through the mask
-- where the line is scrambled. `first` and `now` are views of its place: between them the file was due to it, but for
-- the frames that wait. Frames leave by eight, so those wait that are over.
pub record LineMade (n : ℕ) (form : LineForm) (first now : OutView) (puts : List FramePut)
    (line : LineOutView) : Type 0 where
  pub is_form : line.form ≡ form
  pub made : List (List ℕ)
  pub are_frames : AreLineFrames n [] puts made
  pub due : List ℕ
  pub parts : due ++ line.waiting ≡ through_mask form.scrambled (concat made)
  pub over : length line.waiting ≡ LINE_FRAME_BYTES * (length puts % FRAMES_TOGETHER)
  pub sent : IsSent first due now
  pub frames : line.frames ≡ saturated (counted_frames first.state made sent.written)
  pub sapi : line.sapi ≡ line_sapi n
  pub section : HasSent LINE_COLUMNS made line.section
  pub path : HasSent LINE_COLUMNS made line.path

-- However the line has made frames for a place that is seen so now: of whatever form, whatever the place was before the
-- line, and whatever was put into them.
abbrev pub AsMade : (n : ℕ) → (now : OutView) → LineOutView
    → ((form : LineForm) → (first : OutView) → (puts : List FramePut) → Type 0) → Type 0
AsMade n now line Holds = (form : LineForm) (first : OutView) (puts : List FramePut)
    → LineMade n form first now puts line → Holds form first puts
