-- Steps of `step_client_in`, `step_client_out` and others: what private contracts alone cite, beside the definitions of
-- `NodeMoves`.
use Rattle.std.specs.Prelude.{◌≡◌, ◌≢◌, ℕ, None, slice_get}
use Rattle.otn_base.specs.declared.kind.PortName.{PortName}
use Rattle.otn_base.specs.declared.kind.PortName.TheVariants as port
use Rattle.port_base.specs.Views.{InView, OutView}
use Rattle.line_side.specs.LineOutput.{LineOutView}
use Rattle.line_side.specs.LineStands.{LineView}
use Rattle.plan_file.specs.Answer.{fault_in}
use Rattle.plan_file.specs.declared.plan.Plan.{Plan}
use Rattle.device_model.specs.Entries.{form_out}
use Rattle.device_model.specs.LineFiles.{IsFrameOf}
use Rattle.device_model.specs.Through.{Inputs}
use Rattle.node_links.specs.Moves.{ReadsLine, FillLine, WritesLine, TakesClient, GivesClient}
use Rattle.node_moments.specs.NodeView.{NodeView, HasLineIn, HasLineOut, done_at}
use Rattle.turn_pieces.specs.Pieces.{IsCounted}

-- a piece of a port: one more of it is counted, and each line, in or out, that is not this port's is as it was
pub record OnePiece (name : PortName) (old new : NodeView) : Type 0 where
  pub turns : new.turns ≡ old.turns
  pub past : new.past ≡ old.past
  pub counted : IsCounted name old.pieces new.pieces
  pub lines_in : (a : ℕ) → port.LineIn a ≢ name → slice_get new.lines_in a ≡ slice_get old.lines_in a
  pub lines_out : (b : ℕ) → port.LineOut b ≢ name → slice_get new.lines_out b ≡ slice_get old.lines_out b

-- of input line a
pub record LineInMove (a : ℕ) (old : NodeView) (was : InView) (new : NodeView) (is : InView) : Type 0 where
  pub piece : OnePiece (port.LineIn a) old new
  pub line : LineView
  pub next : LineView
  pub had : HasLineIn old a line
  pub has : HasLineIn new a next
  pub reads : ReadsLine old.past a line was old.links next is new.links

-- of output line b
pub record LineOutMove (b : ℕ) (old : NodeView) (was : OutView) (new : NodeView) (is : OutView) : Type 0 where
  pub piece : OnePiece (port.LineOut b) old new
  pub line : LineOutView
  pub next : LineOutView
  pub had : HasLineOut old b line
  pub has : HasLineOut new b next
  pub writes : WritesLine old.past b (done_at old (port.LineOut b)) line was old.links next is new.links
  pub frame : (plan : Plan) (inputs : Inputs) → fault_in plan ≡ None → line.form ≡ form_out plan b
      → FillLine plan inputs b old.past (done_at old (port.LineOut b)) old.links
      → IsFrameOf plan inputs b old.past (done_at old (port.LineOut b)) writes.put

-- of client input n, and of client output n
pub record ClientInMove (n : ℕ) (old : NodeView) (was : InView) (new : NodeView) (is : InView) : Type 0 where
  pub piece : OnePiece (port.ClientIn n) old new
  pub takes : TakesClient old.past n was old.links is new.links

pub record ClientOutMove (n : ℕ) (old : NodeView) (was : OutView) (new : NodeView) (is : OutView) : Type 0 where
  pub piece : OnePiece (port.ClientOut n) old new
  pub gives : GivesClient old.past n was old.links is new.links
