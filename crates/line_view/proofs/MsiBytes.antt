-- The MSI bytes of the frames of a turn.
use Rattle.std.proofs.Common.{◌≡◌, ◌≢◌, ◌<◌, ◌≤◌, ◌+◌, ◌∙◌, ℕ, zero, suc, Bool, true, false, List, [], ◌∷◌, ◌++◌, Some, None, refl, ap, arith, append-nil}
use Rattle.std.specs.Prelude.{if◌then◌else◌, is_some, ◌==◌}
use Rattle.std.specs.List.{flat_map, range_with_len}
use Rattle.std.proofs.lemmas.Bool.Decides.{nat_tests}
use Rattle.std.proofs.lemmas.Grind.{flat_map-append}
use Rattle.line_side.specs.LineForm.{LineForm, size_of}
use Rattle.line_side.specs.LineFile.{mfas_of}
use Rattle.multiframe.specs.LineTurns.{multiframe}
use Rattle.tributary_model.specs.Places.{Tributary, Taken, byte_at, msi_at, msi_in, turn_view, view_of}
use Rattle.device_model.proofs.TurnFrames.{turn_frames}
use Rattle.device_model.specs.TurnFrames.{frames_in}
use Rattle.line_view.specs.ViewText.{all_slots, msi_at_turn, msi_shown}

-- a frame of which the MFAS is that of none of these slots
pub msi_none : (a n expected : ℕ) (frame : List ℕ) → ((k : ℕ) → a ≤ k → k < a + n → expected ≢ 1 + k) → msi_at (range_with_len a n) expected frame ≡ []
msi_none a zero expected frame other = refl
msi_none a (suc n) expected frame other =
    let here : (expected == 1 + a) ≡ false = (let not_here = other a (omega arith) (omega arith) in grind (arith, nat_tests)) in
    ap (λ b. (if b then (a, byte_at frame 4 15) ∷ [] else []) ++ msi_at (range_with_len (a + 1) n) expected frame) here
    ∙ msi_none (a + 1) n expected frame (λ k low high. other k (omega (arith, low)) (omega (arith, high)))

-- a frame of which the MFAS is that of slot k
pub msi_one : (a n k expected : ℕ) (frame : List ℕ) → a ≤ k → k < a + n → expected ≡ 1 + k → msi_at (range_with_len a n) expected frame ≡ (k, byte_at frame 4 15) ∷ []
msi_one a zero k expected frame low high same = absurd (omega (arith, low, high))
msi_one a (suc n) k expected frame low high same = by_place (λ more. msi_one (a + 1) n k expected frame more (omega (arith, high)) same) (expected == 1 + a) refl
  where
    by_place : (a + 1 ≤ k → msi_at (range_with_len (a + 1) n) expected frame ≡ (k, byte_at frame 4 15) ∷ []) → (b : Bool) → (expected == 1 + a) ≡ b
        → msi_at (range_with_len a (suc n)) expected frame ≡ (k, byte_at frame 4 15) ∷ []
    by_place later true e =
        let here : a ≡ k = (let at = same in grind (arith, nat_tests)) in
        ap (λ b. (if b then (a, byte_at frame 4 15) ∷ [] else []) ++ msi_at (range_with_len (a + 1) n) expected frame) e
        ∙ ap (λ rest. (a, byte_at frame 4 15) ∷ rest) (msi_none (a + 1) n expected frame (λ j more less f. absurd (omega (arith, here, more, f, same))))
        ∙ ap (λ i. (i, byte_at frame 4 15) ∷ []) here
    by_place later false e =
        let more : a + 1 ≤ k = (let at = same in grind (arith, nat_tests)) in
        ap (λ b. (if b then (a, byte_at frame 4 15) ∷ [] else []) ++ msi_at (range_with_len (a + 1) n) expected frame) e
        ∙ later more

-- one frame more
pub msi_more : (own : Tributary) (frames : List Taken) (frame : Taken) → flat_map (msi_in own) (frames ++ frame ∷ []) ≡ flat_map (msi_in own) frames ++ msi_in own frame
msi_more own frames frame = flat_map-append (msi_in own) frames (frame ∷ []) ∙ ap (λ xs. flat_map (msi_in own) frames ++ xs) (append-nil (msi_in own frame))

-- those of a turn, which has its multiframe or not
of_turn : (own : Tributary) (whole : Bool) (frames : List Taken) → (if whole then flat_map (msi_in own) frames else []) ≡ msi_shown (turn_view own (if whole then Some frames else None))
unfolding view_of
of_turn own true frames = refl
of_turn own false frames = refl

pub turn_msi : (form : LineForm) (available : List ℕ) (t : ℕ) (whole : Bool) → whole ≡ is_some (multiframe (size_of form) (mfas_of available) t)
    → (if whole then flat_map (msi_in (all_slots form)) (frames_in (size_of form) available t (size_of form)) else []) ≡ msi_at_turn form available t
unfolding msi_at_turn
turn_msi form available t whole same =
    of_turn (all_slots form) whole (frames_in (size_of form) available t (size_of form)) ∙ ap msi_shown (turn_frames (all_slots form) (size_of form) available t whole refl same)
