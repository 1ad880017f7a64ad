-- Believed: what reading a plan's source comes to.
use Rattle.std.specs.Prelude.{◌≡◌, ◌<◌, ◌≤◌, ◌⊎◌, ◌+◌, ℕ, List, [], None, Result, Ok, Err, length}
use Rattle.otn_base.specs.declared.limits.TheConstants.{MOST_PLAN_BYTES}
use Rattle.otn_base.specs.declared.memory.Memory.{Memory as NoMemory}
use Rattle.port_base.specs.Bytes.{before}
use Rattle.port_base.specs.PortViews.{SourceView, SourceLater}
use Rattle.port_base.specs.Reads.{HasEnded}
use Rattle.plan_file.specs.Answer.{fault_in, plan_of_text}
use Rattle.plan_file.specs.declared.error.NoPlan.TheVariants.{Refused}
use Rattle.command_base.specs.AnswerWords.{CountsBy}
use Rattle.check_command.specs.declared.plan_text.Planned.{Planned}
use Rattle.check_command.specs.declared.plan_text.Planned.TheVariants as planned
use Rattle.command_base.specs.declared.status.Status.{Status}
use Rattle.command_base.specs.declared.status.Status.TheVariants as status

-- the most bytes that are read of a plan's source: one more than the longest plan has
abbrev pub most_read : ℕ
most_read = MOST_PLAN_BYTES + 1

-- all of a source came, so that it has answered its end, or the most bytes that are read
abbrev pub IsAll : List ℕ → SourceView → Type 0
IsAll text source = HasEnded source.left source.ended ⊎ (length text ≡ most_read)

-- what was read before an answer: all; fewer than the most, where a read failed, and that before the source's end; all
-- or nothing, where there was no memory
abbrev pub WasRead : Status → List ℕ → (old new : SourceView) → Type 0
WasRead status.PlanFault text old new = (length text < most_read) × (new.ended ≡ old.ended)
WasRead status.Memory text old new = (text ≡ []) ⊎ IsAll text new
WasRead other text old new = IsAll text new

-- what a command answers that only reads the plan
abbrev pub reading_status : Result Planned NoMemory → Status
reading_status (Ok (planned.Accepted plan)) = status.Done
reading_status (Ok (planned.Refused error place)) = status.Plan error place
reading_status (Ok planned.Fault) = status.PlanFault
reading_status (Err memory) = status.Memory

-- what is said of the text that was read
abbrev pub SaysOf : Result Planned NoMemory → (text : List ℕ) → Type 0
SaysOf (Ok (planned.Accepted plan)) text = (plan_of_text text ≡ Ok plan) × (fault_in plan ≡ None)
SaysOf (Ok (planned.Refused error place)) text = plan_of_text text ≡ Err (Refused error place)
SaysOf (Ok planned.Fault) text = Unit {0}
SaysOf (Err memory) text = Unit {0}

-- a plan's source was read, from how it was to how it is
pub record PlanReading (result : Result Planned NoMemory) (old new : SourceView) : Type 0 where
  pub text : List ℕ
  pub read : old.left ≡ before text new.left
  pub most : length text ≤ most_read
  pub all : WasRead (reading_status result) text old new
  pub says : SaysOf result text
  pub later : SourceLater old new
  pub counts : CountsBy status.PlanFault (reading_status result) old.faults new.faults
