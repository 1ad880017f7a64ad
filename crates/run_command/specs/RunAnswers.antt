-- Believed: what the command `run` answers for: the plan that was read, and what carrying it left.
use Rattle.std.specs.Prelude.{◌≡◌, ◌≢◌, ◌≤◌, ◌*◌, ℕ, List, Ok, Err, length}
use Rattle.port_base.specs.Bytes.{before, raised}
use Rattle.plan_file.specs.Answer.{plan_of_text}
use Rattle.plan_file.specs.declared.error.NoPlan.TheVariants.{Refused}
use Rattle.plan_file.specs.declared.plan.Plan.{Plan}
use Rattle.device_model.specs.Moments.{over_ports, pieces_of}
use Rattle.device_model.specs.Report.{Numbers, report_text}
use Rattle.device_model.specs.declared.outcome.Outcome.{Outcome}
use Rattle.device_model.specs.declared.outcome.Outcome.TheVariants as outcome
use Rattle.device_model.specs.RunLeft.{Takings, RunLeft}
use Rattle.command_base.specs.Device.{Device}
use Rattle.check_command.specs.PlanReading.{WasRead, most_read}
use Rattle.command_base.specs.AnswerWords.{CountsBy, IsRefusal, Reports}
use Rattle.command_base.specs.declared.status.Status.{Status}
use Rattle.command_base.specs.declared.status.Status.TheVariants as status

-- the answer of each outcome
abbrev pub outcome_status : Outcome → Status
outcome_status outcome.Done = status.Done
outcome_status outcome.Unfinished = status.Unfinished
outcome_status outcome.Cut = status.Cut

-- how many pieces the ports that a plan uses have in all its turns
abbrev pub pieces_in_all : Plan → ℕ
pieces_in_all plan = over_ports (pieces_of plan) * plan.turns

-- A plan was carried: the places are as such a run leaves them, with these numbers; its report was written, whole, or a
-- part of it from the front where a write failed; the answer is by its outcome, but where a write failed; and the
-- chooser was asked once for each piece.
pub record PlanRan (plan : Plan) (old new : Device) (asked asked_now : ℕ) (reply : Status) : Type 0 where
  pub takings : Takings
  pub numbers : Numbers
  pub left : RunLeft plan old.bays new.bays takings numbers
  pub wrote : Reports reply old.report.got new.report.got (report_text plan numbers new.bays)
  pub answer : reply ≢ status.ReportFault → reply ≡ outcome_status numbers.outcome
  pub asked_each : asked_now ≡ raised asked (pieces_in_all plan)

-- what is answered to the text of a plan: the first rule that it breaks; nothing, after PlanFault and Memory; else a
-- plan that was carried. Words is no answer to a text
abbrev pub TextRan : Status → (text : List ℕ) → (old new : Device) → (asked asked_now : ℕ) → Type 0
TextRan (status.Plan error place) text old new asked asked_now = plan_of_text text ≡ Err (Refused error place)
TextRan status.PlanFault text old new asked asked_now = Unit {0}
TextRan status.Memory text old new asked asked_now = Unit {0}
TextRan status.Words text old new asked asked_now = ⊥
TextRan carried text old new asked asked_now = (plan : Plan) × (plan_of_text text ≡ Ok plan)
    × PlanRan plan old new asked asked_now carried

-- `run` from all that it was handed, and how often the chooser had been asked, to how they are
pub record RunAnswers (old new : Device) (asked asked_now : ℕ) (reply : Status) : Type 0 where
  -- this text was read of the plan, of a byte more than the longest plan has at most
  pub text : List ℕ
  pub read : old.plan.left ≡ before text new.plan.left
  pub most : length text ≤ most_read
  pub all : WasRead reply text old.plan new.plan
  -- and answered for
  pub ran : TextRan reply text old new asked asked_now
  -- each of the two counts of faults rose or stands at its end after its own answer, and is as it was after any other
  pub plan_counts : CountsBy status.PlanFault reply old.plan.faults new.plan.faults
  pub report_counts : CountsBy status.ReportFault reply old.report.faults new.report.faults
  -- where no plan was carried the chooser was not asked
  pub unasked : IsRefusal reply → asked_now ≡ asked
