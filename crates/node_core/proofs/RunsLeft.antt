-- What is left of the input lines of a node past its last turn that was settled.
use Rattle.std.proofs.Common.{◌≡◌, ◌≤◌, ◌∙◌, ℕ, true, ap}
use Rattle.otn_base.specs.declared.kind.PortName.TheVariants as port
use Rattle.otn_base.specs.declared.limits.TheConstants.{LINES}
use Rattle.port_base.specs.Views.{BaysView, line_in_at}
use Rattle.line_side.specs.LineStands.{LineView}
use Rattle.line_side.specs.Reader.{rest_of}
use Rattle.plan_file.specs.declared.plan.Plan.{Plan}
use Rattle.device_model.specs.Entries.{form_in}
use Rattle.device_model.specs.Moments.{uses}
use Rattle.device_model.specs.Numbers.{line_ending}
use Rattle.device_model.specs.Outcomes.{place_state}
use Rattle.device_model.specs.Through.{Inputs}
use Rattle.node_core.specs.Asking.{LinesAsked}
use Rattle.node_moments.specs.NodeView.{NodeView, HasLineIn}
use Rattle.node_moments.specs.Stands.{InputBytes, MayGive, StandsAt}
use Rattle.node_core.proofs.Settled.{turns_past, used_line_at}
use Rattle.device_model.proofs.SettledLines.{rest_settled}

-- the bytes after the last whole frame of a line that is used are counted as its place and the turns of the plan have
-- it in the end
pub rest_at_end : (plan : Plan) (first was last : BaysView) (read : InputBytes) (node : NodeView) (inputs : Inputs) (a : ℕ) (line : LineView) → node.turns ≤ node.past → StandsAt plan first read node was
    → LinesAsked LINES node.pieces node.lines_in was last → MayGive plan read node inputs → uses plan (port.LineIn a) ≡ true → HasLineIn node a line
    → rest_of line.reader.ending (inputs.line a) ≡ rest_of (line_ending (place_state last (port.LineIn a)) (form_in plan a) (inputs.line a) plan.turns) (inputs.line a)
rest_at_end plan first was last read node inputs a line over st asked may used has =
    let u = used_line_at plan first was last read node a line over st asked used has in
    rest_settled (form_in plan a) (line_in_at first a) (line_in_at was a) (line_in_at last a) (read.line a) (asked.further a) (inputs.line a) node.past line u.stands u.none u.asked (may.lines a line has used)
    ∙ ap (λ t. rest_of (line_ending (place_state last (port.LineIn a)) (form_in plan a) (inputs.line a) t) (inputs.line a)) (turns_past plan node st.plan_stands over)
