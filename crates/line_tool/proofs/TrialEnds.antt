-- How the trial ends where no write of its report failed.
use Rattle.std.proofs.Common.{◌≡◌, ◌⊎◌, ℕ, refl, inl, inr}
use Rattle.port_base.specs.PortViews.{SinkView}
use Rattle.command_base.specs.AnswerWords.{IsWell}
use Rattle.trial_command.specs.TrialAnswers.{TrialAnswers}
use Rattle.command_base.specs.declared.status.Status.{Status}
use Rattle.command_base.specs.declared.status.Status.TheVariants as status

-- it is Done, or there was no memory
pub trial_complete : (answer : Status) (number : ℕ) (old new : SinkView) (asked now : ℕ) → TrialAnswers number old new asked now answer → IsWell old.faults new.faults
    → (answer ≡ status.Done) ⊎ (answer ≡ status.Memory)
trial_complete status.Done number old new asked now h well = inl refl
trial_complete status.Memory number old new asked now h well = inr refl
trial_complete status.ReportFault number old new asked now h well = let wrote = h.wrote in absurd (well wrote.3)
trial_complete status.Words number old new asked now h well = absurd h
trial_complete status.PlanFault number old new asked now h well = absurd h
trial_complete (status.Plan error place) number old new asked now h well = absurd h
trial_complete status.Unfinished number old new asked now h well = absurd h
trial_complete status.Cut number old new asked now h well = absurd h
