-- API: how the lines of a node are asked for one byte more at its end, and what the end comes to.
use Rattle.std.specs.Prelude.{◌≡◌, ◌<◌, ◌≤◌, ℕ, Bool, ◌&&◌, not, nat_lt, List, [], Some, slice_get}
use Rattle.otn_base.specs.declared.kind.PortName.TheVariants as port
use Rattle.port_base.specs.Views.{BaysView, line_in_at}
use Rattle.line_side.specs.LineStands.{LineView}
use Rattle.port_base.specs.Asked.{ByteAsked}
use Rattle.device_model.specs.LineAsked.{is_seen}
use Rattle.turn_pieces.specs.Pieces.{PiecesView, wanted_of}

-- ---- lines

-- a line is to be asked where it has pieces and its end was not seen
abbrev pub asks_line : PiecesView → (a : ℕ) → LineView → Bool
asks_line pieces a line = nat_lt 0 (wanted_of pieces (port.LineIn a)) && not (is_seen line.reader.ending)

-- the first n lines were asked, each once, where they are to be asked; no other place was asked
pub record LinesAsked (n : ℕ) (pieces : PiecesView) (lines : List LineView) (was is : BaysView) : Type 0 where
  pub further : (a : ℕ) → List ℕ
  pub each : (a : ℕ) (line : LineView) → a < n → slice_get lines a ≡ Some line
      → ByteAsked (asks_line pieces a line) (line_in_at was a) (line_in_at is a) (further a)
  pub rest : (a : ℕ) → n ≤ a → (line_in_at is a ≡ line_in_at was a) × (further a ≡ [])
  pub line_out : is.line_out ≡ was.line_out
  pub client_in : is.client_in ≡ was.client_in
  pub client_out : is.client_out ≡ was.client_out
