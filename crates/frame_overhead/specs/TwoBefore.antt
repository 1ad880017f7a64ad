-- Believed: the parity that a frame carries is that of the frame two before it.
use Rattle.std.specs.Prelude.{◌≡◌, ℕ, ◌+◌, ◌==◌, if◌then◌else◌, List, [], ◌∷◌, reverse, Option, Some, None, option_map, slice_index}
use Rattle.otn_base.specs.Counts.{saturated}
use Rattle.frame_geometry.specs.Places.{place_of}
use Rattle.frame_overhead.specs.Parity.{parity_of}

-- the first of a list
abbrev pub first : {A : Type 0} → List A → Option A
first [] = None
first (x ∷ rest) = Some x

-- the second of a list
abbrev pub second : {A : Type 0} → List A → Option A
second [] = None
second (x ∷ []) = None
second (x ∷ y ∷ rest) = Some y

-- G.709 clauses 15.7.2.1 and 15.8.2.1: the parity that the frame after these carries, that of the frame two before it.
-- Frames are listed in the order in which they are sent, and the first two carry none.
abbrev pub parity_due : (cols : ℕ) → (frames : List (List ℕ)) → Option ℕ
parity_due cols frames = option_map (parity_of cols) (second (reverse frames))

-- what is written where the parity stands: 0 where there is none
abbrev pub or_zero : Option ℕ → ℕ
or_zero None = 0
or_zero (Some parity) = parity

-- 1 where a parity is due and another byte stands in its place
abbrev pub wrong_one : Option ℕ → ℕ → ℕ
wrong_one None byte = 0
wrong_one (Some parity) byte = if byte == parity then 0 else 1

-- how many frames have another byte in this row and column than the parity of the frame two before; the last frame is
-- listed first
unfoldable pub wrong_back : (cols row col : ℕ) → (back : List (List ℕ)) → ℕ
wrong_back cols row col [] = 0
wrong_back cols row col (frame ∷ back) =
    wrong_one (option_map (parity_of cols) (second back))
    (slice_index frame (place_of cols row col)) + wrong_back cols row col back

-- of frames as they were sent, how many have another byte in this row and column than the parity of the frame two
-- before
abbrev pub wrong_parities : (cols row col : ℕ) → (frames : List (List ℕ)) → ℕ
wrong_parities cols row col frames = wrong_back cols row col (reverse frames)

-- what is kept of the frames so far: the parities of the last one and of the one before
pub record Kept : Type 0 where
  pub last : Option ℕ
  pub before : Option ℕ

-- These frames were sent.
pub record HasSent (cols : ℕ) (frames : List (List ℕ)) (kept : Kept) : Type 0 where
  pub last : kept.last ≡ option_map (parity_of cols) (first (reverse frames))
  pub before : kept.before ≡ parity_due cols frames

-- what is kept of the frames that were checked: their parities, and how many carried a wrong one
pub record Checked : Type 0 where
  pub kept : Kept
  pub wrong : ℕ

-- These frames were checked, whose parity stands in this row and column.
pub record HasChecked (cols row col : ℕ) (frames : List (List ℕ)) (checked : Checked) : Type 0 where
  pub kept : HasSent cols frames checked.kept
  pub wrong : checked.wrong ≡ saturated (wrong_parities cols row col frames)
