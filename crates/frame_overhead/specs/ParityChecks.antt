-- API: what holds of a check of parities, by the frames that were checked.
use Rattle.std.specs.Prelude.{ℕ, List}
use Rattle.frame_overhead.specs.TwoBefore.{Checked, HasChecked}

-- What holds of a check before one frame more, wherever the parity stands: of every row and column, of the frames that
-- were checked so far, and of the next.
abbrev pub BeforeAFrame : Checked
    → ((cols row col : ℕ) → (frames : List (List ℕ)) → (frame : List ℕ) → Type 0) → Type 0
BeforeAFrame checked Holds = (cols row col : ℕ) (frames : List (List ℕ)) (frame : List ℕ)
    → HasChecked cols row col frames checked → Holds cols row col frames frame
