-- A node past its last turn that was settled, with the numbers that it tells, leaves what a run of its plan leaves.
use Rattle.std.proofs.Common.{◌≡◌, ◌≤◌, length, sym, subst}
use Rattle.otn_base.specs.declared.limits.TheConstants.{LINES}
use Rattle.port_base.specs.Views.{BaysView}
use Rattle.plan_file.specs.declared.plan.Plan.{Plan}
use Rattle.device_model.specs.Outcomes.{IsOutcome}
use Rattle.device_model.specs.Report.{Numbers}
use Rattle.device_model.specs.Through.{Inputs}
use Rattle.device_model.specs.declared.outcome.Outcome.{Outcome}
use Rattle.node_core.specs.Asking.{LinesAsked}
use Rattle.node_moments.specs.NodeView.{NodeView}
use Rattle.device_model.specs.RunLeft.{MayBeInputs, RunLeft, RunOf}
use Rattle.node_core.specs.Settling.{Settled, ToldBy}
use Rattle.node_moments.specs.Stands.{InputBytes, StandsAt}
use Rattle.node_core.proofs.NumbersLeft.{RestsLeft, outputs_told}
use Rattle.node_core.proofs.RunsLeft.{rest_at_end}

pub run_told : (plan : Plan) (first was last : BaysView) (read : InputBytes) (node : NodeView) (outcome : Outcome) (numbers : Numbers) → length node.lines_in ≡ LINES → length node.lines_out ≡ LINES
    → StandsAt plan first read node was → node.turns ≤ node.past → (settled : Settled plan first read node last outcome) → LinesAsked LINES node.pieces node.lines_in was last
    → ToldBy plan node numbers → numbers.outcome ≡ outcome → RunLeft plan first last settled.takings numbers
run_told plan first was last read node outcome numbers lines_in lines_out h over settled asked told same = record {
  line_in = settled.line_in;
  client_in = settled.client_in;
  idle = settled.idle;
  of_inputs = of_inputs;
}
  where
    of_inputs : (inputs : Inputs) → MayBeInputs plan first last settled.takings inputs → RunOf plan first last settled.takings numbers inputs
    of_inputs inputs may =
        let s = settled.of_inputs inputs may in
        let rests : RestsLeft plan node last inputs = λ a line has used. rest_at_end plan first was last read node inputs a line over h asked s.may used has in
        let o = outputs_told plan first read node was last inputs numbers lines_in lines_out h over s.may told rests (subst (IsOutcome plan inputs last) (sym same) s.outcome_is) asked.line_out asked.client_out in
        record { took = s.took; text = s.text; written = o.written; outputs = o.outputs; numbers_are = o.numbers_are }
