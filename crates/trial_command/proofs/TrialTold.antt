-- What the top call answers for, of the trial of a number.
use Rattle.std.proofs.Common.{◌≡◌, ◌≢◌, ℕ, ap, take, sym, subst, Result, Ok, Err, IfOk, IfErr}
use Rattle.otn_base.specs.declared.memory.Memory.{Memory as NoMemory}
use Rattle.port_base.proofs.PortLaws.{sink_later_none}
use Rattle.port_base.specs.PortViews.{SinkLater, SinkView}
use Rattle.port_base.specs.declared.drain.Written.{Written}
use Rattle.port_base.specs.declared.drain.Written.TheVariants as written
use Rattle.trial_command.specs.TrialAnswers.{trial_status, TrialAnswers, TrialRan}
use Rattle.command_base.specs.AnswerWords.{IsRefusal}
use Rattle.trial_command.specs.TrialReport.{trial_report}
use Rattle.trial_plans.specs.TrialDraw.{packets_of_trial}
use Rattle.command_base.specs.declared.status.Status.{Status}
use Rattle.command_base.specs.declared.status.Status.TheVariants as status

-- by how the report was written, seen through any view of it
pub trial_told : {K : Type 0} (view : K → SinkView) (answer : Result Written NoMemory) (number : ℕ) (old new : K) (asked now : ℕ) → IfErr answer (λ _. new ≡ old)
    → IfOk answer (λ told. TrialRan number told (view old) (view new) asked now) → TrialAnswers number (view old) (view new) asked now (trial_status answer)
trial_told view (Ok written.Whole) number old new asked now same ran = ran
trial_told view (Ok written.Lost) number old new asked now same ran = ran
trial_told view (Err memory) number old new asked now same ran = ap view same

-- it is never that the words are none
pub trial_answered : (answer : Result Written NoMemory) → trial_status answer ≢ status.Words
trial_answered (Ok written.Whole) e = cc
trial_answered (Ok written.Lost) e = cc
trial_answered (Err memory) e = cc

-- after an answer that refuses the report is as it was
pub trial_refused : {K : Type 0} (answer : Result Written NoMemory) (old new : K) → IfErr answer (λ _. new ≡ old) → IsRefusal (trial_status answer) → new ≡ old
trial_refused (Ok written.Whole) old new same refusal = absurd refusal
trial_refused (Ok written.Lost) old new same refusal = absurd refusal
trial_refused (Err memory) old new same refusal = same

-- the report after it
pub trial_later : (answer : Status) (number : ℕ) (old new : SinkView) (asked now : ℕ) → TrialAnswers number old new asked now answer → SinkLater old new
trial_later status.Done number old new asked now h = (trial_report h.frames (packets_of_trial number), h.wrote.0)
trial_later status.ReportFault number old new asked now h = (take h.wrote.0 (trial_report h.frames (packets_of_trial number)), h.wrote.2)
trial_later status.Memory number old new asked now h = subst (SinkLater old) (sym h) (sink_later_none old)
trial_later status.Words number old new asked now h = absurd h
trial_later status.Unfinished number old new asked now h = absurd h
trial_later (status.Plan error place) number old new asked now h = absurd h
trial_later status.PlanFault number old new asked now h = absurd h
trial_later status.Cut number old new asked now h = absurd h
