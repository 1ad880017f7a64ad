-- API: the frames that the pieces of a line's turn came to.
use Rattle.std.specs.Prelude.{ℕ, zero, suc, List, [], ◌∷◌, ◌++◌, Option, Some, None}
use Rattle.line_side.specs.LineFile.{frame_at, mfas_of}
use Rattle.multiframe.specs.LineTurns.{Lock, line_state}
use Rattle.multiframe.specs.TurnPieces.{in_hand}
use Rattle.tributary_model.specs.Places.{Taken}

-- the frame of a multiframe that a piece came to, if it came to one
abbrev pub member_of : (available : List ℕ) → Option Lock → List Taken
member_of available None = []
member_of available (Some member) = record { frame = frame_at available member.frame; expected = member.expected } ∷ []

-- the frames of the multiframe of turn past + 1 that the first k pieces of the turn came to
unfoldable pub frames_in : (size : ℕ) → (available : List ℕ) → (past k : ℕ) → List Taken
frames_in size available past zero = []
frames_in size available past (suc k) = frames_in size available past k
    ++ member_of available (in_hand size (mfas_of available) (line_state size (mfas_of available) past) (suc k))
