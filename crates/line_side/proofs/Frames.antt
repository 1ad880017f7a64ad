-- The frames of a list of bytes of which a part was taken.
use Rattle.std.proofs.Common.{◌≡◌, ◌<◌, ◌+◌, ◌*◌, ◌%◌, ℕ, Bool, List, [], ◌++◌, length, take, drop, arith, sym, ap, ◌∙◌, length-append}
use Rattle.std.proofs.Math.Seq.{drop-append_seam, take-append_seam}
use Rattle.line_side.specs.LineForm.{through_mask}
use Rattle.line_side.specs.LineFile.{frame_at, whole_frames}
use Rattle.line_side.proofs.Masks.{length_through, frame_through}

pub length_parts : (s : Bool) (read further rest : List ℕ) → length (through_mask s (read ++ (further ++ rest))) ≡ length read + length further + length rest
length_parts s read further rest = omega (arith, length_through s (read ++ (further ++ rest)), length-append read (further ++ rest), length-append further rest)

came_here : (read further rest : List ℕ) (u : ℕ) → length read ≡ 16320 * u → length further ≡ 16320 → frame_at (read ++ (further ++ rest)) u ≡ further
unfolding frame_at
came_here read further rest u e f =
    ap (λ n. take 16320 (drop n (read ++ (further ++ rest)))) (sym e)
    ∙ ap (take 16320) (drop-append_seam read (further ++ rest))
    ∙ ap (λ n. take n (further ++ rest)) (sym f)
    ∙ take-append_seam further rest

-- the frame that came after u frames were taken
pub frame_here : (s : Bool) (read further rest : List ℕ) (u : ℕ) → length read ≡ 16320 * u → length further ≡ 16320 → frame_at (through_mask s (read ++ (further ++ rest))) u ≡ through_mask s further
frame_here s read further rest u e f = frame_through s (read ++ (further ++ rest)) u ∙ ap (through_mask s) (came_here read further rest u e f)

-- a frame that came is whole
pub whole_here : (s : Bool) (read further rest : List ℕ) (u : ℕ) → length read ≡ 16320 * u → length further ≡ 16320 → u < whole_frames (through_mask s (read ++ (further ++ rest)))
whole_here s read further rest u e f = let n = length_parts s read further rest in omega arith

-- no whole frame came, and no more comes
pub short_here : (s : Bool) (read further rest : List ℕ) (u : ℕ) → length read ≡ 16320 * u → length further < 16320 → rest ≡ []
    → (u ≡ whole_frames (through_mask s (read ++ (further ++ rest)))) × (length (read ++ further) ≡ length (through_mask s (read ++ (further ++ rest))))
    × (length (through_mask s (read ++ (further ++ rest))) % 16320 ≡ length further)
short_here s read further rest u e f none =
    let n = length_parts s read further rest in
    let m = length-append read further in
    let z : length rest ≡ 0 = ap length none in
    (omega arith, omega arith, omega arith)
