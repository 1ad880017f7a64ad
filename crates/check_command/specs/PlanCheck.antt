-- Believed: what `check` reads, and what it answers.
use Rattle.std.specs.Prelude.{◌≡◌, ◌≤◌, ℕ, List, [], ◌∷◌, ◌++◌, Option, Result, Ok, Err, length, codes}
use Rattle.otn_base.specs.declared.memory.Memory.{Memory as NoMemory}
use Rattle.std.specs.Fmt.{decimal}
use Rattle.port_base.specs.Bytes.{before, after}
use Rattle.plan_file.specs.Answer.{plan_of_text}
use Rattle.plan_file.specs.declared.error.NoPlan.TheVariants.{Refused}
use Rattle.plan_file.specs.declared.plan.Plan.{Plan}
use Rattle.port_base.specs.PortViews.{SourceView, SinkView, SourceLater, SinkLater}
use Rattle.command_base.specs.Gains.{GainsPart}
use Rattle.check_command.specs.PlanReading.{WasRead, most_read}
use Rattle.command_base.specs.AnswerWords.{CountsBy}
use Rattle.command_base.specs.declared.status.Status.{Status}
use Rattle.command_base.specs.declared.status.Status.TheVariants as status
use Rattle.command_base.specs.Device.{Device}
use Rattle.check_command.specs.declared.check.Checked.{Checked}
use Rattle.check_command.specs.declared.check.Checked.TheVariants as checked

-- the answer of each ending, and of want of memory
abbrev pub check_status : Result Checked NoMemory → Status
check_status (Ok checked.Told) = status.Done
check_status (Ok (checked.Refused error place)) = status.Plan error place
check_status (Ok checked.PlanFault) = status.PlanFault
check_status (Ok checked.ReportFault) = status.ReportFault
check_status (Err memory) = status.Memory

-- what is written of an accepted plan: `plan connections N turns T` and a line feed
abbrev pub plan_text : Plan → List ℕ
plan_text plan = codes "plan connections "
    ++ (decimal (length plan.connections) ++ (codes " turns " ++ (decimal plan.turns ++ 10 ∷ [])))

-- the answer to a text, and what was written of it
abbrev pub CheckEnds : Status → List ℕ → (old new : Option (List ℕ)) → Type 0
CheckEnds status.Done text old new = (plan : Plan)
    × ((plan_of_text text ≡ Ok plan) × (new ≡ after old (plan_text plan)))
CheckEnds status.ReportFault text old new = (plan : Plan)
    × ((plan_of_text text ≡ Ok plan) × GainsPart old new (plan_text plan))
CheckEnds (status.Plan error place) text old new = (plan_of_text text ≡ Err (Refused error place)) × (new ≡ old)
CheckEnds status.Memory text old new = new ≡ old
CheckEnds status.PlanFault text old new = new ≡ old
CheckEnds other text old new = ⊥

-- `check` from a plan's source and a report as they were to how they are
pub record CheckRun (plan_old plan_new : SourceView) (old new : SinkView) (answer : Status) : Type 0 where
  -- this text was read, of a byte more than the longest plan has at most
  pub text : List ℕ
  pub read : plan_old.left ≡ before text plan_new.left
  pub most : length text ≤ most_read
  pub all : WasRead answer text plan_old plan_new
  -- and answered for
  pub ends : CheckEnds answer text old.got new.got
  pub plan : SourceLater plan_old plan_new
  pub plan_counts : CountsBy status.PlanFault answer plan_old.faults plan_new.faults
  pub report : SinkLater old new
  pub report_counts : CountsBy status.ReportFault answer old.faults new.faults

-- the same, of all that the top call is handed
abbrev pub CheckAnswers : (old new : Device) → Status → Type 0
CheckAnswers old new status = CheckRun old.plan new.plan old.report new.report status
