-- Believed: what the command `trial` answers for.
use Rattle.std.specs.Prelude.{◌≡◌, ℕ, ◌*◌, List, Result, Ok, Err}
use Rattle.otn_base.specs.declared.memory.Memory.{Memory as NoMemory}
use Rattle.port_base.specs.Bytes.{raised}
use Rattle.port_base.specs.PortViews.{SinkView, SinkWrites}
use Rattle.port_base.specs.declared.drain.Written.{Written}
use Rattle.port_base.specs.declared.drain.Written.TheVariants as written
use Rattle.device_model.specs.Through.{Inputs}
use Rattle.trial_plans.specs.TrialCarried.{AreTrialRuns}
use Rattle.trial_plans.specs.TrialDraw.{packets_of_trial}
use Rattle.trial_command.specs.TrialReport.{trial_report}
use Rattle.trial_command.specs.TrialRuns.{run_pieces}
use Rattle.command_base.specs.declared.status.Status.{Status}
use Rattle.command_base.specs.declared.status.Status.TheVariants as status

-- the answer of the top call by how the trial's report was written, and of want of memory
abbrev pub trial_status : Result Written NoMemory → Status
trial_status (Ok written.Whole) = status.Done
trial_status (Ok written.Lost) = status.ReportFault
trial_status (Err memory) = status.Memory

-- how many pieces the four runs have together
abbrev pub trial_pieces : ℕ
trial_pieces = 4 * run_pieces

-- The trial of a number, once there was memory for it: there are the inputs and the files of four runs that carry the
-- packets that it draws, each but the first over the file of the one before (the ports are inside, so no more of them
-- is seen); the report of these files, and of all packets drawn as those that came, was written, whole, or a part of it
-- from the front where a write failed; and the chooser was asked once for each piece.
pub record TrialRan (number : ℕ) (answer : Written) (old new : SinkView) (asked asked_now : ℕ) : Type 0 where
  -- what the inputs of each run were, and the frames of the line file that it made
  pub inputs : (run : ℕ) → Inputs
  pub frames : (run : ℕ) → List (List ℕ)
  pub runs : AreTrialRuns (packets_of_trial number) inputs frames
  pub wrote : SinkWrites answer old (trial_report frames (packets_of_trial number)) new
  pub asked_each : asked_now ≡ raised asked trial_pieces

-- the answer of the top call to the trial of a number: Done where its report was written whole, ReportFault where a
-- write of it failed; after Memory the report is as it was
abbrev pub TrialAnswers : (number : ℕ) → (old new : SinkView) → (asked asked_now : ℕ) → Status → Type 0
TrialAnswers number old new asked asked_now status.Done = TrialRan number written.Whole old new asked asked_now
TrialAnswers number old new asked asked_now status.ReportFault = TrialRan number written.Lost old new asked asked_now
TrialAnswers number old new asked asked_now status.Memory = new ≡ old
TrialAnswers number old new asked asked_now other = ⊥
