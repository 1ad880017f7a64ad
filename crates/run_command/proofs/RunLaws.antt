-- What follows of what `run` answers for.
use Rattle.std.proofs.Common.{◌≡◌, ◌≢◌, ◌∙◌, ◌⊎◌, ◌↔◌, inl, inr, ℕ, List, Some, refl, sym, subst}
use Rattle.plan_file.specs.declared.error.PlanError.{PlanError}
use Rattle.plan_file.specs.declared.plan.Plan.{Plan}
use Rattle.device_model.specs.Outcomes.{HasMore, HasOpen}
use Rattle.device_model.specs.Through.{Inputs}
use Rattle.device_model.specs.declared.outcome.Outcome.{Outcome}
use Rattle.device_model.specs.declared.outcome.Outcome.TheVariants as outcome
use Rattle.run_laws.specs.FaultlessRuns.{AreWell}
use Rattle.device_model.specs.RunLeft.{MayBeInputs}
use Rattle.run_laws.proofs.FaultlessRuns.{faultless}
use Rattle.command_base.specs.Device.{Device}
use Rattle.run_command.specs.RunAnswers.{PlanRan, RunAnswers, TextRan, outcome_status}
use Rattle.run_command.specs.RunLaws.{NothingFailed, EndsBy}
use Rattle.command_base.specs.declared.status.Status.{Status}
use Rattle.command_base.specs.declared.status.Status.TheVariants as status
use Rattle.check_command.proofs.PlanChecks.{same_plan}

-- ---- by the whole text

pub run_told : (reply : Status) (text : List ℕ) (old new : Device) (asked now : ℕ) → RunAnswers old new asked now reply → old.plan.left ≡ Some text → TextRan reply text old new asked now
run_told status.Done text old new asked now h told =
    let e = same_plan text h.text new.plan (sym told ∙ h.read) h.all in
    (h.ran.0, sym e ∙ h.ran.1, h.ran.2)
run_told status.Unfinished text old new asked now h told =
    let e = same_plan text h.text new.plan (sym told ∙ h.read) h.all in
    (h.ran.0, sym e ∙ h.ran.1, h.ran.2)
run_told status.Cut text old new asked now h told =
    let e = same_plan text h.text new.plan (sym told ∙ h.read) h.all in
    (h.ran.0, sym e ∙ h.ran.1, h.ran.2)
run_told status.ReportFault text old new asked now h told =
    let e = same_plan text h.text new.plan (sym told ∙ h.read) h.all in
    (h.ran.0, sym e ∙ h.ran.1, h.ran.2)
run_told (status.Plan error place) text old new asked now h told =
    let e = same_plan text h.text new.plan (sym told ∙ h.read) h.all in
    sym e ∙ h.ran
run_told status.PlanFault text old new asked now h told = tt
run_told status.Memory text old new asked now h told = tt
run_told status.Words text old new asked now h told = absurd h.ran

-- ---- where nothing failed

cut_of : (told : Outcome) → status.Cut ≡ outcome_status told → told ≡ outcome.Cut
cut_of outcome.Done e = absurd (cc)
cut_of outcome.Unfinished e = absurd (cc)
cut_of outcome.Cut e = refl

never_cut : (plan : Plan) (old new : Device) (asked now : ℕ) → PlanRan plan old new asked now status.Cut → AreWell plan old.bays new.bays → ⊥
never_cut plan old new asked now ran well =
    (faultless plan old.bays new.bays ran.takings ran.numbers ran.left well).uncut (cut_of ran.numbers.outcome (ran.answer (λ e. cc)))

pub run_complete : (reply : Status) (old new : Device) (asked now : ℕ) → (answers : RunAnswers old new asked now reply) → NothingFailed old new answers.text
    → (reply ≡ status.Done) ⊎ (reply ≡ status.Unfinished) ⊎ ((error : PlanError) × (place : ℕ) × (reply ≡ status.Plan error place)) ⊎ (reply ≡ status.Memory)
run_complete status.Done old new asked now h well = inl refl
run_complete status.Unfinished old new asked now h well = inr (inl refl)
run_complete (status.Plan error place) old new asked now h well = inr (inr (inl (error, place, refl)))
run_complete status.Memory old new asked now h well = inr (inr (inr refl))
run_complete status.Cut old new asked now h well = absurd (never_cut h.ran.0 old new asked now h.ran.2 (well.places h.ran.0 h.ran.1))
run_complete status.ReportFault old new asked now h well = absurd (well.report (h.report_counts.fault refl))
run_complete status.PlanFault old new asked now h well = absurd (well.plan (h.plan_counts.fault refl))
run_complete status.Words old new asked now h well = absurd h.ran

unfinished_by : (told : Outcome) → (outcome_status told ≡ status.Unfinished) ↔ (told ≡ outcome.Unfinished)
unfinished_by outcome.Done = (λ e. absurd (cc), λ e. absurd (cc))
unfinished_by outcome.Unfinished = (λ e. refl, λ e. refl)
unfinished_by outcome.Cut = (λ e. absurd (cc), λ e. absurd (cc))

done_by : (told : Outcome) → (outcome_status told ≡ status.Done) ↔ (told ≡ outcome.Done)
done_by outcome.Done = (λ e. refl, λ e. refl)
done_by outcome.Unfinished = (λ e. absurd (cc), λ e. absurd (cc))
done_by outcome.Cut = (λ e. absurd (cc), λ e. absurd (cc))

through : (A B C : Type 0) → A ↔ B → B ↔ C → A ↔ C
through A B C f g = (λ a. g.0 (f.0 a), λ c. f.1 (g.1 c))

pub run_ends : (plan : Plan) (old new : Device) (asked now : ℕ) (reply : Status) (inputs : Inputs) → (ran : PlanRan plan old new asked now reply) → reply ≢ status.ReportFault → AreWell plan old.bays new.bays
    → MayBeInputs plan old.bays new.bays ran.takings inputs → EndsBy plan inputs reply
run_ends plan old new asked now reply inputs ran not well may =
    let told = ran.numbers.outcome in
    let ends = faultless plan old.bays new.bays ran.takings ran.numbers ran.left well in
    let same : reply ≡ outcome_status told = ran.answer not in
    subst (EndsBy plan inputs) (sym same)
    (record {
      unfinished = through (outcome_status told ≡ status.Unfinished) (told ≡ outcome.Unfinished) (HasMore plan inputs ⊎ HasOpen plan inputs) (unfinished_by told) (ends.unfinished inputs may);
      done = through (outcome_status told ≡ status.Done) (told ≡ outcome.Done) (HasMore plan inputs ⊎ HasOpen plan inputs → ⊥) (done_by told) (ends.done inputs may);
    })
