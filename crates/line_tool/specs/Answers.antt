-- Believed: what each command answers for, over all that the top call is handed: as it was, and as it is.
use Rattle.std.specs.Prelude.{◌≡◌, ◌≢◌, ℕ, List}
use Rattle.port_base.specs.Views.{BaysView}
use Rattle.port_base.specs.declared.ended.Ended.{Ended}
use Rattle.port_base.specs.declared.ended.Ended.TheVariants as ending
use Rattle.protect_selector.specs.ProtectLeft.{ProtectRan}
use Rattle.protect_selector.specs.Protecting.{OnlyProtected, ends_of}
use Rattle.bundle_command.specs.BundleLeft.{BundleRan, OnlyBundled}
use Rattle.unbundle_command.specs.Unbundling.{OnlyUnbundled}
use Rattle.unbundle_command.specs.UnbundleLeft.{UnbundleRan}
use Rattle.tributary_model.specs.Places.{Tributary}
use Rattle.command_base.specs.Device.{Device}
use Rattle.command_base.specs.Ends.{line_status}
use Rattle.command_base.specs.AnswerWords.{CountsBy}
use Rattle.command_base.specs.declared.status.Status.{Status}
use Rattle.command_base.specs.declared.status.Status.TheVariants.{ReportFault}
use Rattle.command_words.specs.declared.words.Command.{Command}
use Rattle.command_words.specs.declared.words.Command.TheVariants.{Slot, Pull, Check, Run, RunOrdered, RunCaptures, Trial, Protect, Bundle, Unbundle}
use Rattle.line_commands.specs.PullReport.{tributary}
use Rattle.run_command.specs.RunAnswers.{RunAnswers}
use Rattle.trial_command.specs.TrialAnswers.{TrialAnswers}
pub use Rattle.line_commands.specs.LineAnswers.{LineAnswers, SlotRan, PullRan}
pub use Rattle.check_command.specs.PlanCheck.{CheckAnswers}

-- ---- a command over some of the places, turn by turn: which of them it may change, and what it is to have done once
-- there was memory

pub record PlacesAnswers (Only : (old new : BaysView) → Type 0) (Ran : (old new : Device) → Ended → Type 0)
    (old new : Device) (status : Status) : Type 0 where
  -- how it ended, which is the answer
  pub ended : Ended
  pub answer : status ≡ line_status ended
  -- the report's count of faults rose or stands at its end where the answer is ReportFault, and else it is as it was
  pub counts : CountsBy ReportFault status old.report.faults new.report.faults
  pub memory : ended ≡ ending.Memory → new ≡ old
  pub alone : Only old.bays new.bays
  pub ran : ended ≢ ending.Memory → Ran old new ended

-- ---- `protect PORT K,K T N`: the better one of line inputs 0 and 1 goes to line output 0

abbrev pub Protects : (own : Tributary) → (turns wait : ℕ) → (old new : Device) → Ended → Type 0
Protects own turns wait old new ended = ProtectRan own turns wait (ends_of old.bays old.report)
    (ends_of new.bays new.report) ended

-- ---- `bundle C,C T`: the packets of these clients go to line output 0, as the channels of its slot 1

abbrev pub Bundles : (clients : List ℕ) (turns : ℕ) → (old new : Device) → Ended → Type 0
Bundles clients turns old new ended = BundleRan clients turns old.bays new.bays old.report new.report ended

-- ---- `unbundle T`: the channels of slot 1 of line input 0 go to client outputs

abbrev pub Unbundles : (turns : ℕ) → (old new : Device) → Ended → Type 0
Unbundles turns old new ended = UnbundleRan turns old.bays new.bays old.report new.report ended

-- ---- each command, with how often the chooser had been asked before it and after it

abbrev pub Answers : Command → (old new : Device) → (asked asked_now : ℕ) → Status → Type 0
Answers (Slot slot) old new asked asked_now status = LineAnswers (SlotRan slot) old new status
Answers (Pull port slots) old new asked asked_now status = LineAnswers
    (PullRan (tributary port slots.list)) old new status
Answers Check old new asked asked_now status = CheckAnswers old new status
Answers Run old new asked asked_now status = RunAnswers old new asked asked_now status
Answers (RunOrdered number) old new asked asked_now status = RunAnswers old new asked asked_now status
Answers RunCaptures old new asked asked_now status = RunAnswers old new asked asked_now status
Answers (Trial number) old new asked asked_now status = TrialAnswers number old.report new.report asked asked_now status
Answers (Protect port slots turns wait) old new asked asked_now status = PlacesAnswers OnlyProtected
    (Protects (tributary port slots.list) turns wait) old new status
Answers (Bundle clients turns) old new asked asked_now status = PlacesAnswers (OnlyBundled clients)
    (Bundles clients turns) old new status
Answers (Unbundle turns) old new asked asked_now status = PlacesAnswers OnlyUnbundled (Unbundles turns) old new status

-- the commands that leave the plan's source alone, those that leave the places alone, and those that leave the chooser
-- alone
abbrev pub LeavesPlan : Command → Type 0
LeavesPlan (Slot slot) = Unit {0}
LeavesPlan (Pull port slots) = Unit {0}
LeavesPlan Check = ⊥
LeavesPlan Run = ⊥
LeavesPlan (RunOrdered number) = ⊥
LeavesPlan RunCaptures = ⊥
LeavesPlan (Trial number) = Unit {0}
LeavesPlan (Protect port slots turns wait) = Unit {0}
LeavesPlan (Bundle clients turns) = Unit {0}
LeavesPlan (Unbundle turns) = Unit {0}

abbrev pub LeavesBays : Command → Type 0
LeavesBays (Slot slot) = ⊥
LeavesBays (Pull port slots) = ⊥
LeavesBays Check = Unit {0}
LeavesBays Run = ⊥
LeavesBays (RunOrdered number) = ⊥
LeavesBays RunCaptures = ⊥
LeavesBays (Trial number) = Unit {0}
LeavesBays (Protect port slots turns wait) = ⊥
LeavesBays (Bundle clients turns) = ⊥
LeavesBays (Unbundle turns) = ⊥

abbrev pub LeavesChooser : Command → Type 0
LeavesChooser (Slot slot) = Unit {0}
LeavesChooser (Pull port slots) = Unit {0}
LeavesChooser Check = Unit {0}
LeavesChooser Run = ⊥
LeavesChooser (RunOrdered number) = ⊥
LeavesChooser RunCaptures = ⊥
LeavesChooser (Trial number) = ⊥
LeavesChooser (Protect port slots turns wait) = Unit {0}
LeavesChooser (Bundle clients turns) = Unit {0}
LeavesChooser (Unbundle turns) = Unit {0}
