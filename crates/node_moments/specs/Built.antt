-- API: what a node is made of, before turn 1 of a plan.
use Rattle.std.specs.Prelude.{◌≡◌, ℕ, List, [], Some, length, slice_get}
use Rattle.otn_base.specs.declared.limits.TheConstants.{LINES}
use Rattle.port_base.specs.Views.{InView, OutView}
use Rattle.line_side.specs.LineOutput.{LineOutView, LineMade}
use Rattle.line_side.specs.LineStands.{LineView, LineStands}
use Rattle.plan_file.specs.declared.connection.Connection.{Connection}
use Rattle.plan_file.specs.declared.plan.Plan.{Plan}
use Rattle.device_model.specs.Entries.{form_in, form_out}
use Rattle.node_links.specs.Links.{IsLinkOf}
use Rattle.node_links.specs.LinkEnds.{Starts}
use Rattle.node_links.specs.declared.link.Link.{Link}

-- the input lines are of these forms, from which nothing was read, and the output lines, of which no frame was made
pub record AreNewLinesIn (plan : Plan) (lines : List LineView) : Type 0 where
  pub count : length lines ≡ LINES
  pub stands : (a : ℕ) (line : LineView) → slice_get lines a ≡ Some line → (first : InView)
      → LineStands (form_in plan a) first first [] 0 line
  pub pieces : (a : ℕ) (line : LineView) → slice_get lines a ≡ Some line → line.pieces ≡ 0

pub record AreNewLinesOut (plan : Plan) (lines : List LineOutView) : Type 0 where
  pub count : length lines ≡ LINES
  pub made : (b : ℕ) (line : LineOutView) → slice_get lines b ≡ Some line → (first : OutView)
      → LineMade b (form_out plan b) first first [] line

-- the link of an entry, which has started where turn 1 is its first
pub record IsNewLink (x : Connection) (link : Link) : Type 0 where
  pub made : Link
  pub is : IsLinkOf x made
  pub starts : Starts 0 made link

-- the links of all entries
pub record AreNewLinks (plan : Plan) (links : List Link) : Type 0 where
  pub count : length links ≡ length plan.connections
  pub each : (i : ℕ) (x : Connection) (link : Link) → slice_get plan.connections i ≡ Some x
      → slice_get links i ≡ Some link → IsNewLink x link
