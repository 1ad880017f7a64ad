-- API: how commands end where nothing failed.
use Rattle.std.specs.Prelude.{◌≡◌, ◌≢◌, ◌⊎◌, ℕ}
use Rattle.port_base.specs.PortViews.{SinkView}
use Rattle.port_base.specs.Views.{Dead}
use Rattle.plan_file.specs.declared.error.PlanError.{PlanError}
use Rattle.command_base.specs.AnswerWords.{IsWell}
use Rattle.command_base.specs.Device.{Device, line_zero}
use Rattle.command_base.specs.declared.status.Status.{Status}
use Rattle.command_base.specs.declared.status.Status.TheVariants as status
use Rattle.trial_command.specs.TrialAnswers.{TrialAnswers}
use Rattle.line_tool.specs.Answers.{CheckAnswers, LineAnswers}

-- A command over line input 0 that ran so: where the line was not dead, and neither its count of faults nor the
-- report's rose or stands at its end, the answer is Done or Unfinished; or there was no memory.
abbrev pub LineIsComplete : (Ran : (old new : Device) → Status → Type 0) → Type 0
LineIsComplete Ran = (old new : Device) (answer : Status) → LineAnswers Ran old new answer
    → IsWell old.report.faults new.report.faults → IsWell (line_zero old).faults (line_zero new).faults
    → (line_zero old).state ≢ Dead
    → (answer ≡ status.Done) ⊎ (answer ≡ status.Unfinished) ⊎ (answer ≡ status.Memory)

-- `check`, likewise, is Done or Plan
abbrev pub CheckIsComplete : Type 0
CheckIsComplete = (old new : Device) (answer : Status) → CheckAnswers old new answer
    → IsWell old.report.faults new.report.faults → IsWell old.plan.faults new.plan.faults
    → (answer ≡ status.Done) ⊎ ((error : PlanError) × (place : ℕ) × (answer ≡ status.Plan error place))
    ⊎ (answer ≡ status.Memory)

-- and `trial` is Done
abbrev pub TrialIsComplete : Type 0
TrialIsComplete = (number : ℕ) (old new : SinkView) (asked asked_now : ℕ) (answer : Status)
    → TrialAnswers number old new asked asked_now answer
    → IsWell old.faults new.faults → (answer ≡ status.Done) ⊎ (answer ≡ status.Memory)
