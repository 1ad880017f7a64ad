-- The input lines of a node end their turn, one after the other.
use Rattle.std.proofs.Common.{◌≡◌, ◌<◌, ◌≤◌, ℕ, Bool, false, nat_lt, List, get_or, Some, slice_get}
use Rattle.otn_base.specs.declared.kind.PortName.TheVariants as port
use Rattle.line_side.specs.LineStands.{LineView}
use Rattle.node_links.specs.LineEnds.{ends_if}
use Rattle.turn_pieces.specs.Pieces.{PiecesView, wanted_of}

-- the lines below a have ended their turn where they are used, and the others are as they were
pub record EndedBelow (pieces : PiecesView) (a : ℕ) (olds news : List LineView) (wholes : List Bool) : Type 0 where
  pub past : (k : ℕ) (old new : LineView) → k < a → slice_get olds k ≡ Some old → slice_get news k ≡ Some new → ends_if (nat_lt 0 (wanted_of pieces (port.LineIn k))) old new (get_or wholes k false)
  pub ahead : (k : ℕ) → a ≤ k → slice_get news k ≡ slice_get olds k
