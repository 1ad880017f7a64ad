-- Steps of `carry_plan`: what private contracts alone cite, beside the definitions of `PlanRuns`.
use Rattle.std.specs.Prelude.{◌≡◌, ℕ, Ok}
use Rattle.port_base.specs.Bytes.{raised}
use Rattle.port_base.specs.PortViews.{SinkView, SinkLater}
use Rattle.port_base.specs.Views.{BaysView}
use Rattle.plan_file.specs.declared.plan.Plan.{Plan}
use Rattle.device_model.specs.Report.{Numbers, report_text}
use Rattle.device_model.specs.declared.outcome.Outcome.{Outcome}
use Rattle.device_model.specs.RunLeft.{Takings, RunLeft}
use Rattle.run_command.specs.RunAnswers.{pieces_in_all}
use Rattle.command_base.specs.AnswerWords.{CountsBy, Reports}
use Rattle.run_command.specs.declared.plan_run.Ran.{Ran}
use Rattle.run_command.specs.declared.plan_run.Ran.TheVariants as ran
use Rattle.command_base.specs.declared.status.Status.TheVariants as status
use Rattle.run_command.specs.PlanRuns.{run_status}

-- how a plan that was carried ended: by its outcome, or where a write of its report failed
abbrev pub AnswersOutcome : Outcome → Ran → Type 0
AnswersOutcome outcome (ran.Carried told) = told ≡ outcome
AnswersOutcome outcome ran.ReportFault = Unit {0}
AnswersOutcome outcome other = ⊥

-- A plan was carried, from its places, the report and how often the chooser had been asked to how they are.
pub record PlanCarried (plan : Plan) (first last : BaysView) (old new : SinkView) (asked asked_now : ℕ)
    (answer : Ran) : Type 0 where
  pub takings : Takings
  pub numbers : Numbers
  pub left : RunLeft plan first last takings numbers
  pub wrote : Reports (run_status (Ok answer)) old.got new.got (report_text plan numbers last)
  pub later : SinkLater old new
  pub counts : CountsBy status.ReportFault (run_status (Ok answer)) old.faults new.faults
  pub ends : AnswersOutcome numbers.outcome answer
  pub asked_each : asked_now ≡ raised asked (pieces_in_all plan)
