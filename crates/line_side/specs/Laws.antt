-- API: what is proved of a line's bytes.
use Rattle.std.specs.Prelude.{◌≡◌, ◌<◌, ◌≤◌, ◌+◌, ◌*◌, ℕ, Bool, List, [], length, take, slice_get, slice_index, bit_xor, Some}
use Rattle.port_base.specs.Given.{HadToGive}
use Rattle.port_base.specs.Views.{InView}
use Rattle.multiframe.specs.LineTurns.{wanted_so_far, took}
use Rattle.otn_base.specs.declared.limits.TheConstants.{LINE_COLUMNS, LINE_FRAME_BYTES}
use Rattle.line_side.specs.LineForm.{LineForm, size_of, through_mask}
use Rattle.otu_overhead.specs.Mask.{mask}
use Rattle.line_side.specs.LineFile.{frame_at, mfas_of}
use Rattle.line_side.specs.LineStands.{LineView, LineStands}
use Rattle.frame_overhead.specs.Parity.{parity_of}
use Rattle.frame_overhead.specs.TwoBefore.{parity_due, or_zero}
use Rattle.line_side.specs.LineOutput.{FramePut, IsLineFrame, AreLineFrames}
use Rattle.line_side.specs.MayBe.{MayBe}

-- What a place that tells its bytes gave in the whole run is, through the mask, among what the line may have.
abbrev pub AvailableIsAmong : Type 0
AvailableIsAmong = (form : LineForm) (first now : InView) (read file : List ℕ) (t : ℕ) (line : LineView)
    → LineStands form first now read t line → HadToGive first now file
    → MayBe form.scrambled line.reader.ending read (through_mask form.scrambled file)

-- So many bytes were read as the turns and pieces so far want: the frames, or all where they want one that is not
-- whole.
abbrev pub TakesTheWanted : Type 0
TakesTheWanted = (form : LineForm) (first now : InView) (read available : List ℕ) (t : ℕ) (line : LineView)
    → LineStands form first now read t line → MayBe form.scrambled line.reader.ending read available
    → length read ≡ took LINE_FRAME_BYTES (length available) (mfas_of available)
    (wanted_so_far (size_of form) (mfas_of available) t line.pieces)

-- The frames of a line in which these were put are the only ones.
abbrev pub OneLineFile : Type 0
OneLineFile = (n : ℕ) (before : List (List ℕ)) (puts : List FramePut) (some others : List (List ℕ))
    → AreLineFrames n before puts some → AreLineFrames n before puts others → some ≡ others

-- Frame i of a line, from 0: the i-th put was put into it, and it carries the parity of the frame two before it.
abbrev pub FrameByFrame : Type 0
FrameByFrame = (n : ℕ) (puts : List FramePut) (frames : List (List ℕ)) (i : ℕ) (put : FramePut) (frame : List ℕ)
    → AreLineFrames n [] puts frames
    → slice_get puts i ≡ Some put → slice_get frames i ≡ Some frame
    → IsLineFrame n (or_zero (parity_due LINE_COLUMNS (take i frames))) put frame

-- G.709 clauses 15.7.2.1 and 15.8.2.1: the parity of frame i is due in frame i + 2.
abbrev pub ParityTwoOn : Type 0
ParityTwoOn = (frames : List (List ℕ)) (i : ℕ) (frame : List ℕ) → slice_get frames i ≡ Some frame
    → i + 2 ≤ length frames
    → parity_due LINE_COLUMNS (take (i + 2) frames) ≡ Some (parity_of LINE_COLUMNS frame)

-- What went through the mask comes back through it.
abbrev pub MaskedTwice : Type 0
MaskedTwice = (scrambled : Bool) (bytes : List ℕ) → through_mask scrambled (through_mask scrambled bytes) ≡ bytes

-- G.709 clause 11.2: a frame of a line is the file's frame, each byte with that of the line's mask by exclusive or.
abbrev pub FramesThroughMask : Type 0
FramesThroughMask = (scrambled : Bool) (file : List ℕ) (f place : ℕ) → place < LINE_FRAME_BYTES
    → LINE_FRAME_BYTES * f + place < length file
    → slice_index (frame_at (through_mask scrambled file) f) place
    ≡ bit_xor (slice_index file (LINE_FRAME_BYTES * f + place)) (slice_index (mask scrambled) place)
