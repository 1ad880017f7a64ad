-- API: the input lines of a node at the end of a turn.
use Rattle.std.specs.Prelude.{◌≡◌, ℕ, Bool, true, false, List, nat_lt, length, slice_get, get_or, Some}
use Rattle.otn_base.specs.declared.kind.PortName.TheVariants as port
use Rattle.otn_base.specs.declared.limits.TheConstants.{LINES}
use Rattle.line_side.specs.LineStands.{LineView}
use Rattle.node_links.specs.Moves.{LineEnds}
use Rattle.turn_pieces.specs.Pieces.{PiecesView, wanted_of}

-- the turn of a line ends where it is used, and a line that is not stays
abbrev pub ends_if : (used : Bool) → (old new : LineView) → (whole : Bool) → Type 0
ends_if true old new whole = LineEnds old new whole
ends_if false old new whole = (new ≡ old) × (whole ≡ false)

-- the turn of each line that is used ends, and this says whether it has a multiframe
pub record LinesEnd (pieces : PiecesView) (olds news : List LineView) (wholes : List Bool) : Type 0 where
  pub size : length wholes ≡ LINES
  pub each : (a : ℕ) (old new : LineView) → slice_get olds a ≡ Some old → slice_get news a ≡ Some new
      → ends_if (nat_lt 0 (wanted_of pieces (port.LineIn a))) old new (get_or wholes a false)
