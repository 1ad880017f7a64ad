-- API: what follows of what the command `run` answers for: by the whole text of its plan, and where nothing failed.
use Rattle.std.specs.Prelude.{◌≡◌, ◌≢◌, ◌↔◌, ◌⊎◌, ℕ, List, Ok, Some}
use Rattle.plan_file.specs.Answer.{plan_of_text}
use Rattle.plan_file.specs.declared.error.PlanError.{PlanError}
use Rattle.plan_file.specs.declared.plan.Plan.{Plan}
use Rattle.device_model.specs.Outcomes.{HasMore, HasOpen}
use Rattle.device_model.specs.Through.{Inputs}
use Rattle.run_laws.specs.FaultlessRuns.{AreWell}
use Rattle.device_model.specs.RunLeft.{MayBeInputs}
use Rattle.command_base.specs.Device.{Device}
use Rattle.run_command.specs.RunAnswers.{PlanRan, RunAnswers, TextRan}
use Rattle.command_base.specs.AnswerWords.{IsWell}
use Rattle.command_base.specs.declared.status.Status.{Status}
use Rattle.command_base.specs.declared.status.Status.TheVariants as status

-- Where its source tells the text of the plan, `run` answers for that text.
abbrev pub RunAnswersForItsText : Type 0
RunAnswersForItsText = (text : List ℕ) (old new : Device) (asked now : ℕ) (reply : Status)
    → RunAnswers old new asked now reply → old.plan.left ≡ Some text
    → TextRan reply text old new asked now

-- Nothing failed: no count of faults of the plan's source, of the report, or of a place that the plan of this text uses
-- rose or stands at its end, and none of these places was dead.
pub record NothingFailed (old new : Device) (text : List ℕ) : Type 0 where
  pub plan : IsWell old.plan.faults new.plan.faults
  pub report : IsWell old.report.faults new.report.faults
  pub places : (planned : Plan) → plan_of_text text ≡ Ok planned → AreWell planned old.bays new.bays

-- Then the answer is Done or Unfinished, or Plan; or there was no memory.
abbrev pub RunIsComplete : Type 0
RunIsComplete = (old new : Device) (asked now : ℕ) (reply : Status) → (answers : RunAnswers old new asked now reply)
    → NothingFailed old new answers.text
    → (reply ≡ status.Done) ⊎ (reply ≡ status.Unfinished)
    ⊎ ((error : PlanError) × (place : ℕ) × (reply ≡ status.Plan error place)) ⊎ (reply ≡ status.Memory)

-- Unfinished is the answer exactly where a line has more than its turns want, or a client is not spent; and Done
-- exactly where neither is.
pub record EndsBy (plan : Plan) (inputs : Inputs) (reply : Status) : Type 0 where
  pub unfinished : (reply ≡ status.Unfinished) ↔ (HasMore plan inputs ⊎ HasOpen plan inputs)
  pub done : (reply ≡ status.Done) ↔ (HasMore plan inputs ⊎ HasOpen plan inputs → ⊥)

-- So a plan ends that was carried, and none of its places failed, whatever its inputs may turn out to be.
abbrev pub RunEndsByInputs : Type 0
RunEndsByInputs = (plan : Plan) (old new : Device) (asked now : ℕ) (reply : Status) (inputs : Inputs)
    → (ran : PlanRan plan old new asked now reply)
    → reply ≢ status.ReportFault → AreWell plan old.bays new.bays
    → MayBeInputs plan old.bays new.bays ran.takings inputs → EndsBy plan inputs reply
