-- Believed: what is fixed of a line before its first frame, and the mask of one that is scrambled.
use Rattle.std.specs.Prelude.{ℕ, ◌+◌, ◌%◌, Bool, true, false, List, [], ◌∷◌, bit_xor}
use Rattle.otn_base.specs.LineSlots.{slots_of}
use Rattle.otn_base.specs.declared.limits.TheConstants.{LINE_FRAME_BYTES}
use Rattle.otn_base.specs.declared.line_kind.LineKind.{LineKind}
use Rattle.otn_base.specs.declared.line_kind.LineKind.TheVariants.{Otu2}
use Rattle.otu_overhead.specs.Mask.{mask_byte}

-- the kind of a line, and whether it is scrambled (G.709 clause 11.2)
pub record LineForm : Type 0 where
  pub kind : LineKind
  pub scrambled : Bool

-- an OTU2 line that is not scrambled
abbrev pub plain_otu2 : LineForm
plain_otu2 = record { kind = Otu2; scrambled = false }

-- G.709 clause 19.1: a multiframe of a line has as many frames as the line has slots
abbrev pub size_of : LineForm → ℕ
size_of form = slots_of form.kind

-- G.709 clause 11.2: bytes from a place of a line's file on, or from the first one of a frame on, each through the
-- mask's byte at its place in its frame, by exclusive or, where the line is scrambled. So the frames of a line become
-- its file, and its file becomes the frames.
unfoldable pub masked_from : (place : ℕ) → List ℕ → List ℕ
masked_from place [] = []
masked_from place (byte ∷ bytes) = bit_xor byte (mask_byte (place % LINE_FRAME_BYTES)) ∷ masked_from (place + 1) bytes

abbrev pub through_mask : (scrambled : Bool) → List ℕ → List ℕ
through_mask false bytes = bytes
through_mask true bytes = masked_from 0 bytes
