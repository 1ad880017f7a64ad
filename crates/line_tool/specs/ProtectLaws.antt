-- API: what follows of what the command `protect` answers for: by the bytes that both lines had to give, and where
-- nothing failed.
use Rattle.std.specs.Prelude.{◌≡◌, ◌≢◌, ◌↔◌, ◌⊎◌, ◌+◌, ◌-◌, ◌^◌, ◌<◌, ℕ, List, length, min}
use Rattle.port_base.specs.Given.{HadToGive}
use Rattle.port_base.specs.PortViews.{SinkGot}
use Rattle.port_base.specs.Views.{line_in_at}
use Rattle.port_base.specs.declared.ended.Ended.{Ended}
use Rattle.port_base.specs.declared.ended.Ended.TheVariants as ending
use Rattle.line_side.specs.LineForm.{plain_otu2}
use Rattle.tributary_model.specs.Places.{Tributary}
use Rattle.device_model.specs.Moments.{line_read}
use Rattle.protect_selector.specs.OfLines.{due_before, switch_text}
use Rattle.tributary_line.specs.TurnsLeft.{HasMore, OutputDue}
use Rattle.protect_selector.specs.ProtectLeft.{IsCut, StoppedIn}
use Rattle.protect_selector.specs.Protecting.{Ends, OnlyProtected, ends_of}
use Rattle.command_base.specs.AnswerWords.{IsWell}
use Rattle.line_tool.specs.Answers.{PlacesAnswers, Protects}
use Rattle.command_base.specs.Device.{Device}
use Rattle.command_base.specs.declared.status.Status.{Status}
use Rattle.command_base.specs.declared.status.Status.TheVariants as status

-- how many bytes so many turns want of a line that gives these, and one more, or all where there are fewer
abbrev pub bytes_read : (turns : ℕ) → (available : List ℕ) → ℕ
bytes_read turns available = min (length available) (line_read plain_otu2 available turns 0 + 1)

-- What is left where working and protection had these bytes to give. By the places' numbers as many were taken of each
-- as the turns want and one more, or all.
pub record LeftOfGiven (own : Tributary) (turns wait : ℕ) (first last : Ends) (ended : Ended)
    (w p : List ℕ) : Type 0 where
  pub output : ended ≢ ending.ReportFault → OutputDue own (due_before own wait w p turns) turns
      first.output last.output
  pub report : ended ≢ ending.ReportFault → SinkGot first.report (switch_text own wait w p turns) last.report
  pub cut : ended ≢ ending.ReportFault → (ended ≡ ending.Cut) ↔ IsCut last
  pub unfinished : ended ≢ ending.ReportFault
      → (ended ≡ ending.Unfinished) ↔ ((IsCut last → ⊥) × (HasMore turns w ⊎ HasMore turns p))
  pub working_took : ended ≢ ending.ReportFault → last.working.number < 2 ^ 64 - 1
      → last.working.number - first.working.number ≡ bytes_read turns w
  pub protection_took : ended ≢ ending.ReportFault → last.protection.number < 2 ^ 64 - 1
      → last.protection.number - first.protection.number ≡ bytes_read turns p
  -- after ReportFault the turn at whose switch a write failed, from 0
  pub stopped : ended ≡ ending.ReportFault → (t : ℕ) × (t < turns) × StoppedIn own t wait first last w p

-- Where both lines tell their bytes, `protect` leaves what it does of all that they had to give.
abbrev pub ProtectsWhatWasGiven : Type 0
ProtectsWhatWasGiven = (own : Tributary) (turns wait : ℕ) (old new : Device) (ended : Ended) (w p : List ℕ)
    → Protects own turns wait old new ended
    → HadToGive (line_in_at old.bays 0) (line_in_at new.bays 0) w
    → HadToGive (line_in_at old.bays 1) (line_in_at new.bays 1) p
    → LeftOfGiven own turns wait (ends_of old.bays old.report) (ends_of new.bays new.report) ended w p

-- None of the three places was dead, and none of their counts of faults rose or stands at its end.
pub record AreThreeWell (first last : Ends) : Type 0 where
  pub uncut : IsCut first → ⊥
  pub working : IsWell first.working.faults last.working.faults
  pub protection : IsWell first.protection.faults last.protection.faults
  pub output : IsWell first.output.faults last.output.faults

-- Then, and where no write of the report failed, the answer is Done or Unfinished; or there was no memory.
abbrev pub ProtectIsComplete : Type 0
ProtectIsComplete = (own : Tributary) (turns wait : ℕ) (old new : Device) (answer : Status)
    → PlacesAnswers OnlyProtected (Protects own turns wait) old new answer
    → IsWell old.report.faults new.report.faults
    → AreThreeWell (ends_of old.bays old.report) (ends_of new.bays new.report)
    → (answer ≡ status.Done) ⊎ (answer ≡ status.Unfinished) ⊎ (answer ≡ status.Memory)
