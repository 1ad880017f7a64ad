-- Whether a line is dead, and whether a report failed.
use Rattle.std.proofs.Common.{◌≡◌, ◌≢◌, ◌∙◌, ◌⊎◌, sym, inl, inr, refl}
use Rattle.port_base.specs.Given.{Lives}
use Rattle.port_base.specs.Views.{State, Empty, Live, Dead, InView}
use Rattle.command_base.specs.AnswerWords.{IsWell}
use Rattle.command_base.specs.declared.status.Status.{Status}
use Rattle.command_base.specs.declared.status.Status.TheVariants.{Done, Unfinished, Words, Plan, PlanFault, ReportFault, Cut, Memory}

pub is_dead : (s : State) → (s ≡ Dead) ⊎ (s ≢ Dead)
is_dead Dead = inl refl
is_dead Live = inr (λ e. cc)
is_dead Empty = inr (λ e. cc)

pub is_report_fault : (s : Status) → (s ≡ ReportFault) ⊎ (s ≢ ReportFault)
is_report_fault ReportFault = inl refl
is_report_fault Done = inr (λ e. cc)
is_report_fault Unfinished = inr (λ e. cc)
is_report_fault Words = inr (λ e. cc)
is_report_fault PlanFault = inr (λ e. cc)
is_report_fault (Plan error place) = inr (λ e. cc)
is_report_fault Cut = inr (λ e. cc)
is_report_fault Memory = inr (λ e. cc)

-- with no fault, a line that was not dead is not dead
pub still_alive : (first now : InView) → Lives first.state now.state first.faults now.faults → IsWell first.faults now.faults → first.state ≢ Dead → now.state ≢ Dead
still_alive first now (inl (same, calm)) well alive = λ dead. alive (sym same ∙ dead)
still_alive first now (inr died) well alive = absurd (well died.2)
