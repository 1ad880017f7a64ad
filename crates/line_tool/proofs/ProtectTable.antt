-- What follows of what `protect` answers for.
use Rattle.std.proofs.Common.{◌≡◌, ◌≢◌, ◌∙◌, ◌⊎◌, inl, inr, ◌<◌, ◌-◌, ◌^◌, ℕ, Bool, List, refl, sym, ap, subst, arith}
use Rattle.port_base.specs.Given.{Lives}
use Rattle.port_base.specs.Views.{State, Dead, InView}
use Rattle.port_base.specs.declared.ended.Ended.{Ended}
use Rattle.port_base.specs.declared.ended.Ended.TheVariants.{Done, Unfinished, Cut, ReportFault, Memory}
use Rattle.tributary_model.specs.Places.{Tributary}
use Rattle.device_model.specs.LineAsked.{InputLeft}
use Rattle.run_laws.proofs.GivenRuns.{follows}
use Rattle.protect_selector.specs.ProtectLeft.{AllDone, IsCut, LeftSo, ProtectRan}
use Rattle.tributary_line.specs.TurnsLeft.{TookOf}
use Rattle.protect_selector.specs.Protecting.{Ends, ends_of}
use Rattle.command_base.specs.AnswerWords.{IsWell}
use Rattle.command_base.specs.Ends.{line_status}
use Rattle.line_tool.specs.ProtectLaws.{AreThreeWell, LeftOfGiven, ProtectIsComplete, ProtectsWhatWasGiven, bytes_read}
use Rattle.command_base.specs.declared.status.Status.TheVariants as status
use Rattle.line_tool.proofs.Protected.{may_be_itself}
use Rattle.line_commands.proofs.PullTable.{taken_by_number}

-- ---- by Given

-- how many bytes were taken, by the place's number
pub took_by_number : (first last : InView) (read : List ℕ) (more : Bool) (turns : ℕ) (available : List ℕ) → InputLeft first last read more → TookOf turns available read → last.number < 2 ^ 64 - 1
    → last.number - first.number ≡ bytes_read turns available
took_by_number first last read more turns available left took below = let n = taken_by_number first last read left.gave below in omega (arith, n, took)

all_left : (ended : Ended) (own : Tributary) (turns wait : ℕ) (first last : Ends) (w p : List ℕ) (ran : ProtectRan own turns wait first last ended) → ended ≢ ReportFault
    → AllDone own turns wait first last ended ran.working ran.protection w p → LeftOfGiven own turns wait first last ended w p
all_left ended own turns wait first last w p ran other all = record {
  output = λ _. all.output;
  report = λ _. all.report;
  cut = λ _. all.cut;
  unfinished = λ _. all.unfinished;
  working_took = λ _ below. took_by_number first.working last.working ran.working ran.working_more turns w ran.working_left all.working_took below;
  protection_took = λ _ below. took_by_number first.protection last.protection ran.protection ran.protection_more turns p ran.protection_left all.protection_took below;
  stopped = λ fault. absurd (other fault);
}

left_of : (ended : Ended) (own : Tributary) (turns wait : ℕ) (first last : Ends) (w p : List ℕ) (ran : ProtectRan own turns wait first last ended)
    → LeftSo ended own turns wait ran.stopped first last ran.working ran.protection w p → LeftOfGiven own turns wait first last ended w p
left_of Done own turns wait first last w p ran left = all_left Done own turns wait first last w p ran (λ e. cc) left
left_of Unfinished own turns wait first last w p ran left = all_left Unfinished own turns wait first last w p ran (λ e. cc) left
left_of Cut own turns wait first last w p ran left = all_left Cut own turns wait first last w p ran (λ e. cc) left
left_of ReportFault own turns wait first last w p ran left = record {
  output = λ no. absurd (no refl);
  report = λ no. absurd (no refl);
  cut = λ no. absurd (no refl);
  unfinished = λ no. absurd (no refl);
  working_took = λ no. absurd (no refl);
  protection_took = λ no. absurd (no refl);
  stopped = λ _. (ran.stopped, left.0, left.1);
}
left_of Memory own turns wait first last w p ran left = absurd left

pub what_was_given : ProtectsWhatWasGiven
what_was_given own turns wait old new ended w p ran had_w had_p =
    let first = ends_of old.bays old.report in
    let last = ends_of new.bays new.report in
    left_of ended own turns wait first last w p ran
    (ran.left w p (follows first.working last.working ran.working ran.working_more w ran.working_left had_w)
    (follows first.protection last.protection ran.protection ran.protection_more p ran.protection_left had_p))

-- ---- without faults

pub still : (first now : State) (old new : ℕ) → Lives first now old new → IsWell old new → first ≢ Dead → now ≢ Dead
still first now old new (inl same) well alive = λ dead. alive (sym same.0 ∙ dead)
still first now old new (inr died) well alive = absurd (well died.2)

never_cut : (own : Tributary) (turns wait : ℕ) (first last : Ends) → ProtectRan own turns wait first last Cut → AreThreeWell first last → ⊥
never_cut own turns wait first last ran well = go (all.cut.0 refl)
  where
    all : AllDone own turns wait first last Cut ran.working ran.protection ran.working ran.protection
    all = ran.left ran.working ran.protection (may_be_itself ran.working_more ran.working) (may_be_itself ran.protection_more ran.protection)

    go : IsCut last → ⊥
    go (inl dead) = still first.working.state last.working.state first.working.faults last.working.faults ran.working_left.gave.state well.working (λ d. well.uncut (inl d)) dead
    go (inr (inl dead)) =
        still first.protection.state last.protection.state first.protection.faults last.protection.faults ran.protection_left.gave.state well.protection (λ d. well.uncut (inr (inl d))) dead
    go (inr (inr dead)) = still first.output.state last.output.state first.output.faults last.output.faults all.output.sent.gained.state well.output (λ d. well.uncut (inr (inr d))) dead

pub protect_complete : ProtectIsComplete
protect_complete own turns wait old new answer h report well = by h.ended refl
  where
    by : (e : Ended) → h.ended ≡ e → (answer ≡ status.Done) ⊎ (answer ≡ status.Unfinished) ⊎ (answer ≡ status.Memory)
    by Done e = inl (h.answer ∙ ap line_status e)
    by Unfinished e = inr (inl (h.answer ∙ ap line_status e))
    by Memory e = inr (inr (h.answer ∙ ap line_status e))
    by ReportFault e = absurd (report (h.counts.fault (h.answer ∙ ap line_status e)))
    by Cut e =
        let some : h.ended ≢ Memory = λ none. let f : Cut ≡ Memory = sym e ∙ none in absurd (cc) in
        absurd (never_cut own turns wait (ends_of old.bays old.report) (ends_of new.bays new.report)
        (subst (λ x. ProtectRan own turns wait (ends_of old.bays old.report) (ends_of new.bays new.report) x) e (h.ran some)) well)
