-- API: a frame of an output line as the connections of a node make it, one after the other.
use Rattle.std.specs.Prelude.{◌≡◌, ℕ, List, None}
use Rattle.port_base.specs.Views.{OutView}
use Rattle.line_side.specs.LineOutput.{LineOutView}
use Rattle.plan_file.specs.Answer.{fault_in}
use Rattle.plan_file.specs.declared.plan.Plan.{Plan}
use Rattle.device_model.specs.Entries.{form_out}
use Rattle.device_model.specs.LineFiles.{IsFrameOf}
use Rattle.device_model.specs.Through.{Inputs}
use Rattle.node_links.specs.Moves.{FillLine, WritesLine}
use Rattle.node_links.specs.declared.link.Link.{Link}

-- Line b makes frame n of turn past + 1. Under an accepted plan, the active connections of which stand at this frame of
-- the turn, it is the frame of the plan, whatever the inputs are.
pub record FrameWritten (past b n : ℕ) (old : LineOutView) (was : OutView) (links : List Link) (new : LineOutView)
    (is : OutView) (next : List Link) : Type 0 where
  pub writes : WritesLine past b n old was links new is next
  pub due : (plan : Plan) (inputs : Inputs) → fault_in plan ≡ None → old.form ≡ form_out plan b
      → FillLine plan inputs b past n links → IsFrameOf plan inputs b past n writes.put
