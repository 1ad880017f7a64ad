-- API: what is seen of a node.
use Rattle.std.specs.Prelude.{◌≡◌, ◌⊎◌, ◌≤◌, ◌+◌, ◌-◌, ◌*◌, ◌&&◌, ℕ, Bool, nat_lt, if◌then◌else◌, List, length, Some, slice_get}
use Rattle.otn_base.specs.LineSlots.{slots_of}
use Rattle.otn_base.specs.declared.limits.TheConstants.{LINES, MOST_TURNS}
use Rattle.otn_base.specs.declared.kind.PortName.{PortName}
use Rattle.otn_base.specs.declared.kind.PortName.TheVariants as port
use Rattle.line_side.specs.LineOutput.{LineOutView}
use Rattle.line_side.specs.LineStands.{LineView}
use Rattle.plan_file.specs.declared.connection.FromEnd.{FromEnd}
use Rattle.plan_file.specs.declared.connection.FromEnd.TheVariants as from_end
use Rattle.plan_file.specs.declared.connection.ToEnd.{ToEnd}
use Rattle.plan_file.specs.declared.connection.ToEnd.TheVariants as to_end
use Rattle.turn_pieces.specs.Pieces.{PiecesView, is_open, done_of, wanted_of, open_count, left_now, in_a_turn}
use Rattle.node_links.specs.declared.link.Link.{Link}

-- how many turns there are and how many are past, the pieces of this turn, the input lines, the output lines, and the
-- connections
pub record NodeView : Type 0 where
  pub turns : ℕ
  pub past : ℕ
  pub pieces : PiecesView
  pub lines_in : List LineView
  pub lines_out : List LineOutView
  pub links : List Link

-- the port has a piece to do in this turn, which is one of the plan's
abbrev pub is_ready : NodeView → PortName → Bool
is_ready node name = nat_lt node.past node.turns && is_open node.pieces name

-- input line a, output line b, and the connection of entry i
abbrev pub HasLineIn : NodeView → (a : ℕ) → LineView → Type 0
HasLineIn node a line = slice_get node.lines_in a ≡ Some line

abbrev pub HasLineOut : NodeView → (b : ℕ) → LineOutView → Type 0
HasLineOut node b line = slice_get node.lines_out b ≡ Some line

abbrev pub HasLink : NodeView → (i : ℕ) → Link → Type 0
HasLink node i link = slice_get node.links i ≡ Some link

-- how many pieces of a port are done
abbrev pub done_at : NodeView → PortName → ℕ
done_at node name = done_of node.pieces name

-- how many pieces are done of the port that a connection comes from, 0 of a signal, and of the port that it goes to
abbrev pub taken_pieces : NodeView → FromEnd → ℕ
taken_pieces node (from_end.Line a number slots) = done_at node (port.LineIn a)
taken_pieces node (from_end.Client n) = done_at node (port.ClientIn n)
taken_pieces node (from_end.Signal signal) = 0

abbrev pub given_pieces : NodeView → ToEnd → ℕ
given_pieces node (to_end.Line b number slots) = done_at node (port.LineOut b)
given_pieces node (to_end.Client n) = done_at node (port.ClientOut n)

-- how many ports are ready
abbrev pub ready_number : NodeView → ℕ
ready_number node = if nat_lt node.past node.turns then open_count node.pieces else 0

-- the pieces that are left, in this turn and all later ones
abbrev pub left_of : NodeView → ℕ
left_of node = if nat_lt node.past node.turns
    then left_now node.pieces + (node.turns - node.past - 1) * in_a_turn node.pieces else 0

-- each input line has done as many pieces as are counted at its port, and has none or as many as its multiframe has
-- frames
pub record LineCount (wants done : ℕ) (line : LineView) : Type 0 where
  pub pieces : line.pieces ≡ done
  pub want : (wants ≡ 0) ⊎ (wants ≡ slots_of line.kind)

-- What holds of every node. Each output line has no piece, or as many as its multiframe has frames.
pub record IsNode (node : NodeView) : Type 0 where
  pub turns : node.turns ≤ MOST_TURNS
  pub few : node.past ≤ node.turns
  pub lines_in : length node.lines_in ≡ LINES
  pub lines_out : length node.lines_out ≡ LINES
  pub counts : (a : ℕ) (line : LineView) → HasLineIn node a line
      → LineCount (wanted_of node.pieces (port.LineIn a)) (done_at node (port.LineIn a)) line
  pub frames : (b : ℕ) (line : LineOutView) → HasLineOut node b line
      → (wanted_of node.pieces (port.LineOut b) ≡ 0)
      ⊎ (wanted_of node.pieces (port.LineOut b) ≡ slots_of line.form.kind)
  pub most : (name : PortName) → done_at node name ≤ wanted_of node.pieces name
