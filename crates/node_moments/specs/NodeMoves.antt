-- API: what a piece of a port, and the end of a turn, do to a node and to the port's place.
use Rattle.std.specs.Prelude.{◌≡◌, ◌≢◌, ◌+◌, ℕ, Bool, false, List, length, slice_get, get_or}
use Rattle.otn_base.specs.declared.kind.PortName.TheVariants as port
use Rattle.otn_base.specs.declared.limits.TheConstants.{LINES}
use Rattle.line_side.specs.LineStands.{LineView}
use Rattle.node_links.specs.LinkEnds.{TurnsOver}
use Rattle.node_links.specs.Moves.{EachLink, LineEnds}
use Rattle.node_moments.specs.NodeView.{NodeView, HasLineIn}
use Rattle.turn_pieces.specs.Pieces.{IsFresh, wanted_of}

-- ---- the end of a turn

-- Turn past + 1 ends: each input line that is used ends its turn, and each connection hands on what it has; then the
-- next turn begins.
pub record FenceMove (old new : NodeView) : Type 0 where
  pub turns : new.turns ≡ old.turns
  pub past : new.past ≡ old.past + 1
  pub wants : new.pieces.wants ≡ old.pieces.wants
  pub fresh : IsFresh new.pieces
  pub wholes : List Bool
  pub used : (a : ℕ) (line next : LineView) → wanted_of old.pieces (port.LineIn a) ≢ 0 → HasLineIn old a line
      → HasLineIn new a next → LineEnds line next (get_or wholes a false)
  pub idle : (a : ℕ) → wanted_of old.pieces (port.LineIn a) ≡ 0 → slice_get new.lines_in a ≡ slice_get old.lines_in a
  pub lines : length old.lines_in ≡ LINES
  pub count : length new.lines_in ≡ length old.lines_in
  pub lines_out : new.lines_out ≡ old.lines_out
  pub links : EachLink (TurnsOver old.past wholes) old.links new.links
