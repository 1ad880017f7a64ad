-- API: what follows of what the command `unbundle` answers for: by the bytes that the line had to give, and where
-- nothing failed.
use Rattle.std.specs.Prelude.{◌≡◌, ◌≢◌, ◌↔◌, ◌⊎◌, ◌-◌, ◌^◌, ◌<◌, ℕ, List}
use Rattle.otn_base.specs.declared.limits.TheConstants.{CLIENTS}
use Rattle.port_base.specs.Given.{HadToGive}
use Rattle.port_base.specs.PortViews.{SinkWrites}
use Rattle.port_base.specs.Views.{Dead, BaysView, line_in_at, client_out_at}
use Rattle.port_base.specs.declared.ended.Ended.{Ended}
use Rattle.port_base.specs.declared.ended.Ended.TheVariants as ending
use Rattle.unbundle_command.specs.Unbundled.{arrived_before, report_text}
use Rattle.unbundle_command.specs.Unbundling.{OnlyUnbundled}
use Rattle.tributary_line.specs.TurnsLeft.{HasMore}
use Rattle.unbundle_command.specs.UnbundleLeft.{IsCut, OutputsSent, written_by}
use Rattle.command_base.specs.AnswerWords.{IsWell}
use Rattle.line_tool.specs.Answers.{PlacesAnswers, Unbundles}
use Rattle.command_base.specs.Device.{Device}
use Rattle.line_tool.specs.ProtectLaws.{bytes_read}
use Rattle.command_base.specs.declared.status.Status.{Status}
use Rattle.command_base.specs.declared.status.Status.TheVariants as status

-- What is left where the line had these bytes to give. By the place's number as many were taken of it as the turns want
-- and one more, or all.
pub record UnbundledOfGiven (turns : ℕ) (old new : Device) (ended : Ended) (available : List ℕ) : Type 0 where
  pub outputs : OutputsSent (arrived_before available turns) old.bays new.bays
  pub report : SinkWrites (written_by ended) old.report (report_text (arrived_before available turns)) new.report
  pub cut : ended ≢ ending.ReportFault → (ended ≡ ending.Cut) ↔ IsCut (arrived_before available turns) new.bays
  pub unfinished : ended ≢ ending.ReportFault
      → (ended ≡ ending.Unfinished) ↔ ((IsCut (arrived_before available turns) new.bays → ⊥) × HasMore turns available)
  pub took : (line_in_at new.bays 0).number < 2 ^ 64 - 1
      → (line_in_at new.bays 0).number - (line_in_at old.bays 0).number ≡ bytes_read turns available

-- Where the line tells its bytes, `unbundle` leaves what it does of all that it had to give.
abbrev pub UnbundlesWhatWasGiven : Type 0
UnbundlesWhatWasGiven = (turns : ℕ) (old new : Device) (ended : Ended) (available : List ℕ)
    → Unbundles turns old new ended → HadToGive (line_in_at old.bays 0) (line_in_at new.bays 0) available
    → UnbundledOfGiven turns old new ended available

-- Neither line input 0 nor a client output was dead, and none of their counts of faults rose or stands at its end.
pub record AreOutputsWell (first last : BaysView) : Type 0 where
  pub line_live : (line_in_at first 0).state ≢ Dead
  pub line : IsWell (line_in_at first 0).faults (line_in_at last 0).faults
  pub outputs_live : (cid : ℕ) → cid < CLIENTS → (client_out_at first cid).state ≢ Dead
  pub outputs : (cid : ℕ) → cid < CLIENTS → IsWell (client_out_at first cid).faults (client_out_at last cid).faults

-- Then, and where no write of the report failed, the answer is Done or Unfinished; or there was no memory.
abbrev pub UnbundleIsComplete : Type 0
UnbundleIsComplete = (turns : ℕ) (old new : Device) (answer : Status)
    → PlacesAnswers OnlyUnbundled (Unbundles turns) old new answer
    → IsWell old.report.faults new.report.faults → AreOutputsWell old.bays new.bays
    → (answer ≡ status.Done) ⊎ (answer ≡ status.Unfinished) ⊎ (answer ≡ status.Memory)
