-- Believed: how a command ends, and what the top call then answers.
use Rattle.std.specs.Prelude.{◌≡◌, Option, Some}
use Rattle.port_base.specs.Bytes.{HasFailed}
use Rattle.port_base.specs.PortViews.{SinkView, SinkLater}
use Rattle.port_base.specs.declared.ended.Ended.{Ended}
use Rattle.port_base.specs.declared.ended.Ended.TheVariants.{Done, Unfinished, Cut, ReportFault, Memory}
use Rattle.command_base.specs.declared.status.Status.{Status}
use Rattle.command_base.specs.declared.status.Status.TheVariants as status

-- the answer of each ending
abbrev pub line_status : Ended → Status
line_status Done = status.Done
line_status Unfinished = status.Unfinished
line_status Cut = status.Cut
line_status ReportFault = status.ReportFault
line_status Memory = status.Memory

-- a report's count of faults: it rose or stands at its end where a write failed, and else it is as it was
abbrev pub FaultsBy : Option Ended → (old new : SinkView) → Type 0
FaultsBy (Some ReportFault) old new = HasFailed old.faults new.faults
FaultsBy other old new = new.faults ≡ old.faults

-- the report after a step of a command: the same sink, and its count of faults. The step ended the command so; None
-- where it goes on.
pub record ReportAfter (answer : Option Ended) (old new : SinkView) : Type 0 where
  pub later : SinkLater old new
  pub faults : FaultsBy answer old new
