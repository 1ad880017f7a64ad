use Rattle.std.proofs.Common.{refl, sym, subst, ◌∙◌}
use Rattle.port_base.proofs.PortLaws.{source_later_none}
use Rattle.port_base.specs.PortViews.{SinkLater, sink_view, source_view}
use Rattle.port_base.specs.Racks.{bays_view, with_line_in}
use Rattle.tributary_model.specs.Places.{tributary_of}
use Rattle.protect_selector.specs.Protecting.{ends_of, OnlyProtected}
use Rattle.protect_selector.specs.ProtectLeft.{ProtectRan}
use Rattle.bundle_command.specs.BundleLeft.{BundleRan, OnlyBundled}
use Rattle.unbundle_command.specs.Unbundling.{OnlyUnbundled}
use Rattle.line_tool.specs.Answers.{Answers, Bundles, PlacesAnswers, Protects, Unbundles}
use Rattle.command_base.specs.Device.{device}
use Rattle.check_command.specs.PlanCheck.{check_status}
use Rattle.trial_command.specs.TrialAnswers.{trial_status}
use Rattle.line_commands.specs.PullReport.{tributary}
use Rattle.run_command.specs.RunAnswers.{RunAnswers}
use Rattle.command_base.specs.AnswerWords.{IsRefusal}
use Rattle.command_words.specs.Words.{texts}
use Rattle.command_words.specs.declared.words.Command.TheVariants.{Slot, Pull, Run, RunOrdered, RunCaptures, Trial, Protect, Bundle, Unbundle}
use Rattle.line_tool.proofs.Answered.{check_stays, line_stays, never_words, nothing_stays, pull_answered, refused_line, slot_answered}
use Rattle.command_words.proofs.Forms.{one_form}
use Rattle.line_tool.proofs.PlacesAnswered.{by_memory, places_answered, places_refused, places_stay, report_stays, same_places}
use Rattle.line_tool.proofs.Protected.{of_otu2, protect_later}
use Rattle.trial_command.proofs.TrialTold.{trial_answered, trial_later, trial_refused, trial_told}
use Rattle.line_tool.proofs.BundleTable.{bundle_later}
use Rattle.line_tool.proofs.UnbundleTable.{unbundle_later}
use Rattle.line_tool.proofs.top.run.Goals as goal

-- ---- `slot`

pub returns-in-Some-Slot-clause-answers : goal.returns-in-Some-Slot-clause-answers
returns-in-Some-Slot-clause-answers g c = λ command form.
    let mine = rw c.in-Some-Slot.field-0-is at c.in-Some-Slot.ensures.form in
    let old = device g.P.Source g.K.Sink g.I.Source g.O.Sink c.args.plan.now c.args.bays.now c.args.report.now in
    let run = slot_answered g.P.Source g.K.Sink g.I.Source g.O.Sink c.args.plan.now c.args.bays.now c.line_in_mut-line.result.now c.write_slot.new.line c.args.report.now c.write_slot.new.report
    c.write_slot.result c.in-Some-Slot.slot c.line_in_mut-line.ensures.value c.write_slot.ensures.memory c.write_slot.ensures.run c.write_slot.ensures.report in
    subst (λ k. Answers k old (device g.P.Source g.K.Sink g.I.Source g.O.Sink c.args.plan.now (with_line_in c.args.bays.now 0 c.write_slot.new.line) c.write_slot.new.report) (g.C.Chooser.asked c.args.chooser.now) (g.C.Chooser.asked c.args.chooser.now) c.status_of.result) (one_form (texts c.args.words.now) (Slot c.in-Some-Slot.slot) command mine form)
    (subst (λ answer. Answers (Slot c.in-Some-Slot.slot) old (device g.P.Source g.K.Sink g.I.Source g.O.Sink c.args.plan.now (with_line_in c.args.bays.now 0 c.write_slot.new.line) c.write_slot.new.report) (g.C.Chooser.asked c.args.chooser.now) (g.C.Chooser.asked c.args.chooser.now) answer) (sym c.status_of.ensures) run)

pub returns-in-Some-Slot-clause-refused : goal.returns-in-Some-Slot-clause-refused
returns-in-Some-Slot-clause-refused g c = λ refusal.
    refused_line c.args.bays.now c.line_in_mut-line.result.now c.write_slot.new.line c.args.report.now c.write_slot.new.report
    c.write_slot.result c.line_in_mut-line.ensures.value c.write_slot.ensures.memory (subst IsRefusal c.status_of.ensures refusal)

pub returns-in-Some-Slot-clause-stays : goal.returns-in-Some-Slot-clause-stays
returns-in-Some-Slot-clause-stays g c =
    line_stays g.P.Source g.K.Sink g.I.Source g.O.Sink c.args.plan.now c.args.bays.now c.write_slot.new.line c.args.report.now c.write_slot.new.report
    c.write_slot.result c.write_slot.ensures.report

-- ---- `pull`

pub returns-in-Some-Pull-clause-answers : goal.returns-in-Some-Pull-clause-answers
returns-in-Some-Pull-clause-answers g c = λ command form.
    let mine = rw c.in-Some-Pull.field-0-is at c.in-Some-Pull.ensures.form in
    let old = device g.P.Source g.K.Sink g.I.Source g.O.Sink c.args.plan.now c.args.bays.now c.args.report.now in
    let run = pull_answered g.P.Source g.K.Sink g.I.Source g.O.Sink c.args.plan.now c.args.bays.now c.line_in_mut-tapped.result.now c.write_pull.new.line c.args.report.now c.write_pull.new.report
    c.write_pull.result (tributary c.in-Some-Pull.port c.in-Some-Pull.slots.list) c.line_in_mut-tapped.ensures.value c.write_pull.ensures.memory c.write_pull.ensures.run c.write_pull.ensures.report in
    subst (λ k. Answers k old (device g.P.Source g.K.Sink g.I.Source g.O.Sink c.args.plan.now (with_line_in c.args.bays.now 0 c.write_pull.new.line) c.write_pull.new.report) (g.C.Chooser.asked c.args.chooser.now) (g.C.Chooser.asked c.args.chooser.now) c.status_of-in-Some-Pull.result) (one_form (texts c.args.words.now) (Pull c.in-Some-Pull.port c.in-Some-Pull.slots) command mine form)
    (subst (λ answer. Answers (Pull c.in-Some-Pull.port c.in-Some-Pull.slots) old (device g.P.Source g.K.Sink g.I.Source g.O.Sink c.args.plan.now (with_line_in c.args.bays.now 0 c.write_pull.new.line) c.write_pull.new.report) (g.C.Chooser.asked c.args.chooser.now) (g.C.Chooser.asked c.args.chooser.now) answer) (sym c.status_of-in-Some-Pull.ensures) run)

pub returns-in-Some-Pull-clause-refused : goal.returns-in-Some-Pull-clause-refused
returns-in-Some-Pull-clause-refused g c = λ refusal.
    refused_line c.args.bays.now c.line_in_mut-tapped.result.now c.write_pull.new.line c.args.report.now c.write_pull.new.report
    c.write_pull.result c.line_in_mut-tapped.ensures.value c.write_pull.ensures.memory (subst IsRefusal c.status_of-in-Some-Pull.ensures refusal)

pub returns-in-Some-Pull-clause-stays : goal.returns-in-Some-Pull-clause-stays
returns-in-Some-Pull-clause-stays g c =
    line_stays g.P.Source g.K.Sink g.I.Source g.O.Sink c.args.plan.now c.args.bays.now c.write_pull.new.line c.args.report.now c.write_pull.new.report
    c.write_pull.result c.write_pull.ensures.report

-- ---- `check`, and no command

pub returns-in-Some-Check-clause-refused : goal.returns-in-Some-Check-clause-refused
returns-in-Some-Check-clause-refused g c = λ refusal. (refl, c.check_plan.ensures.refused (subst IsRefusal c.status_of_check.ensures refusal))

pub returns-in-Some-Check-clause-stays : goal.returns-in-Some-Check-clause-stays
returns-in-Some-Check-clause-stays g c =
    check_stays g.P.Source g.K.Sink g.I.Source g.O.Sink c.args.plan.now c.check_plan.new.plan c.args.bays.now c.args.report.now c.check_plan.new.report (check_status c.check_plan.result) c.check_plan.ensures.run

pub returns-in-None-clause-stays : goal.returns-in-None-clause-stays
returns-in-None-clause-stays g c = nothing_stays g.P.Source g.K.Sink g.I.Source g.O.Sink c.args.plan.now c.args.bays.now c.args.report.now

-- ---- `run`, in any order

pub returns-in-Some-Run-clause-answers : goal.returns-in-Some-Run-clause-answers
returns-in-Some-Run-clause-answers g c = λ command form.
    let mine = rw c.in-Some-Run.field-0-is at c.in-Some-Run.ensures.form in
    let old = device g.P.Source g.K.Sink g.I.Source g.O.Sink c.args.plan.now c.args.bays.now c.args.report.now in
    let new = device g.P.Source g.K.Sink g.I.Source g.O.Sink c.run_plan.new.plan c.run_plan.new.bays c.run_plan.new.report in
    subst (λ k. Answers k old new (g.C.Chooser.asked c.args.chooser.now) (g.C.Chooser.asked c.run_plan.new.chooser) c.status_of_run.result) (one_form (texts c.args.words.now) Run command mine form)
    (subst (λ answer. RunAnswers old new (g.C.Chooser.asked c.args.chooser.now) (g.C.Chooser.asked c.run_plan.new.chooser) answer) (sym c.status_of_run.ensures) c.run_plan.ensures.ran)

pub returns-in-Some-Run-clause-refused : goal.returns-in-Some-Run-clause-refused
returns-in-Some-Run-clause-refused g c = λ refusal.
    let same = c.run_plan.ensures.refused (subst IsRefusal c.status_of_run.ensures refusal) in
    (same.0, same.1)

pub returns-in-Some-Run-clause-stays : goal.returns-in-Some-Run-clause-stays
returns-in-Some-Run-clause-stays g c = c.run_plan.ensures.stays

pub returns-in-Some-RunOrdered-clause-answers : goal.returns-in-Some-RunOrdered-clause-answers
returns-in-Some-RunOrdered-clause-answers g c = λ command form.
    let mine = rw c.in-Some-RunOrdered.field-0-is at c.in-Some-RunOrdered.ensures.form in
    let old = device g.P.Source g.K.Sink g.I.Source g.O.Sink c.args.plan.now c.args.bays.now c.args.report.now in
    let new = device g.P.Source g.K.Sink g.I.Source g.O.Sink c.run_plan-in-Some-RunOrdered.new.plan c.run_plan-in-Some-RunOrdered.new.bays c.run_plan-in-Some-RunOrdered.new.report in
    subst (λ k. Answers k old new (g.C.Chooser.asked c.args.chooser.now) (g.C.Chooser.asked c.run_plan-in-Some-RunOrdered.new.chooser) c.status_of_run-in-Some-RunOrdered.result) (one_form (texts c.args.words.now) (RunOrdered c.in-Some-RunOrdered._number) command mine form)
    (subst (λ answer. RunAnswers old new (g.C.Chooser.asked c.args.chooser.now) (g.C.Chooser.asked c.run_plan-in-Some-RunOrdered.new.chooser) answer) (sym c.status_of_run-in-Some-RunOrdered.ensures) c.run_plan-in-Some-RunOrdered.ensures.ran)

pub returns-in-Some-RunOrdered-clause-refused : goal.returns-in-Some-RunOrdered-clause-refused
returns-in-Some-RunOrdered-clause-refused g c = λ refusal.
    let same = c.run_plan-in-Some-RunOrdered.ensures.refused (subst IsRefusal c.status_of_run-in-Some-RunOrdered.ensures refusal) in
    (same.0, same.1)

pub returns-in-Some-RunOrdered-clause-stays : goal.returns-in-Some-RunOrdered-clause-stays
returns-in-Some-RunOrdered-clause-stays g c = c.run_plan-in-Some-RunOrdered.ensures.stays

pub returns-in-Some-RunCaptures-clause-answers : goal.returns-in-Some-RunCaptures-clause-answers
returns-in-Some-RunCaptures-clause-answers g c = λ command form.
    let mine = rw c.in-Some-RunCaptures.field-0-is at c.in-Some-RunCaptures.ensures.form in
    let old = device g.P.Source g.K.Sink g.I.Source g.O.Sink c.args.plan.now c.args.bays.now c.args.report.now in
    let new = device g.P.Source g.K.Sink g.I.Source g.O.Sink c.run_plan-in-Some-RunCaptures.new.plan c.run_plan-in-Some-RunCaptures.new.bays c.run_plan-in-Some-RunCaptures.new.report in
    subst (λ k. Answers k old new (g.C.Chooser.asked c.args.chooser.now) (g.C.Chooser.asked c.run_plan-in-Some-RunCaptures.new.chooser) c.status_of_run-in-Some-RunCaptures.result) (one_form (texts c.args.words.now) RunCaptures command mine form)
    (subst (λ answer. RunAnswers old new (g.C.Chooser.asked c.args.chooser.now) (g.C.Chooser.asked c.run_plan-in-Some-RunCaptures.new.chooser) answer) (sym c.status_of_run-in-Some-RunCaptures.ensures) c.run_plan-in-Some-RunCaptures.ensures.ran)

pub returns-in-Some-RunCaptures-clause-refused : goal.returns-in-Some-RunCaptures-clause-refused
returns-in-Some-RunCaptures-clause-refused g c = λ refusal.
    let same = c.run_plan-in-Some-RunCaptures.ensures.refused (subst IsRefusal c.status_of_run-in-Some-RunCaptures.ensures refusal) in
    (same.0, same.1)

pub returns-in-Some-RunCaptures-clause-stays : goal.returns-in-Some-RunCaptures-clause-stays
returns-in-Some-RunCaptures-clause-stays g c = c.run_plan-in-Some-RunCaptures.ensures.stays

-- ---- `trial`

pub returns-in-Some-Trial-clause-answers : goal.returns-in-Some-Trial-clause-answers
returns-in-Some-Trial-clause-answers g c = λ command form.
    let mine = rw c.in-Some-Trial.field-0-is at c.in-Some-Trial.ensures.form in
    let old = device g.P.Source g.K.Sink g.I.Source g.O.Sink c.args.plan.now c.args.bays.now c.args.report.now in
    let new = device g.P.Source g.K.Sink g.I.Source g.O.Sink c.args.plan.now c.args.bays.now c.run_trial.new.report in
    let told = trial_told (sink_view g.K.Sink) c.run_trial.result c.in-Some-Trial.seed c.args.report.now c.run_trial.new.report (g.C.Chooser.asked c.args.chooser.now) (g.C.Chooser.asked c.run_trial.new.chooser)
    c.run_trial.ensures.memory c.run_trial.ensures.ran in
    subst (λ k. Answers k old new (g.C.Chooser.asked c.args.chooser.now) (g.C.Chooser.asked c.run_trial.new.chooser) c.status_of_trial.result) (one_form (texts c.args.words.now) (Trial c.in-Some-Trial.seed) command mine form)
    (subst (λ answer. Answers (Trial c.in-Some-Trial.seed) old new (g.C.Chooser.asked c.args.chooser.now) (g.C.Chooser.asked c.run_trial.new.chooser) answer) (sym c.status_of_trial.ensures) told)

pub returns-in-Some-Trial-clause-words : goal.returns-in-Some-Trial-clause-words
returns-in-Some-Trial-clause-words g c = (
  λ e. absurd (trial_answered c.run_trial.result (sym c.status_of_trial.ensures ∙ e)),
  λ none. absurd (none (Trial c.in-Some-Trial.seed) (rw c.in-Some-Trial.field-0-is at c.in-Some-Trial.ensures.form)),
)

pub returns-in-Some-Trial-clause-refused : goal.returns-in-Some-Trial-clause-refused
returns-in-Some-Trial-clause-refused g c = λ refusal.
    (refl, trial_refused c.run_trial.result c.args.report.now c.run_trial.new.report c.run_trial.ensures.memory (subst IsRefusal c.status_of_trial.ensures refusal))

pub returns-in-Some-Trial-clause-stays : goal.returns-in-Some-Trial-clause-stays
returns-in-Some-Trial-clause-stays g c = record {
  plan = source_later_none (source_view g.P.Source c.args.plan.now);
  report =
      trial_later (trial_status c.run_trial.result) c.in-Some-Trial.seed (sink_view g.K.Sink c.args.report.now) (sink_view g.K.Sink c.run_trial.new.report) _ _
      (trial_told (sink_view g.K.Sink) c.run_trial.result c.in-Some-Trial.seed c.args.report.now c.run_trial.new.report (g.C.Chooser.asked c.args.chooser.now) (g.C.Chooser.asked c.run_trial.new.chooser)
      c.run_trial.ensures.memory c.run_trial.ensures.ran);
}

-- ---- `protect`

pub returns-in-Some-Protect-clause-answers : goal.returns-in-Some-Protect-clause-answers
returns-in-Some-Protect-clause-answers g c = λ command form.
    let mine = rw c.in-Some-Protect.field-0-is at c.in-Some-Protect.ensures.form in
    let old = device g.P.Source g.K.Sink g.I.Source g.O.Sink c.args.plan.now c.args.bays.now c.args.report.now in
    let new = device g.P.Source g.K.Sink g.I.Source g.O.Sink c.args.plan.now c.protect.new.bays c.protect.new.report in
    let own = of_otu2 c.in-Some-Protect.slots c.in-Some-Protect.port mine.5 in
    let run = places_answered OnlyProtected (Protects (tributary c.in-Some-Protect.port c.in-Some-Protect.slots.list) c.in-Some-Protect.turns c.in-Some-Protect.wait) c.protect.result old new
    (λ none. same_places g.P.Source g.K.Sink g.I.Source g.O.Sink c.args.plan.now c.args.bays.now c.protect.new.bays c.args.report.now c.protect.new.report (c.protect.ensures.memory none))
    (λ some. subst (λ t. ProtectRan t c.in-Some-Protect.turns c.in-Some-Protect.wait (ends_of old.bays old.report) (ends_of new.bays new.report) c.protect.result) own (c.protect.ensures.ran some))
    c.protect.ensures.cause c.protect.ensures.well c.protect.ensures.alone in
    subst (λ k. Answers k old new (g.C.Chooser.asked c.args.chooser.now) (g.C.Chooser.asked c.args.chooser.now) c.status_of-in-Some-Protect.result)
    (one_form (texts c.args.words.now) (Protect c.in-Some-Protect.port c.in-Some-Protect.slots c.in-Some-Protect.turns c.in-Some-Protect.wait) command mine form)
    (subst (λ answer. PlacesAnswers OnlyProtected (Protects (tributary c.in-Some-Protect.port c.in-Some-Protect.slots.list) c.in-Some-Protect.turns c.in-Some-Protect.wait) old new answer)
    (sym c.status_of-in-Some-Protect.ensures) run)

pub returns-in-Some-Protect-clause-words : goal.returns-in-Some-Protect-clause-words
returns-in-Some-Protect-clause-words g c = (
  λ e. absurd (never_words c.protect.result (sym c.status_of-in-Some-Protect.ensures ∙ e)),
  λ none. absurd (none (Protect c.in-Some-Protect.port c.in-Some-Protect.slots c.in-Some-Protect.turns c.in-Some-Protect.wait) (rw c.in-Some-Protect.field-0-is at c.in-Some-Protect.ensures.form)),
)

pub returns-in-Some-Protect-clause-refused : goal.returns-in-Some-Protect-clause-refused
returns-in-Some-Protect-clause-refused g c = λ refusal.
    places_refused c.args.bays.now c.protect.new.bays c.args.report.now c.protect.new.report c.protect.result c.protect.ensures.memory (subst IsRefusal c.status_of-in-Some-Protect.ensures refusal)

pub returns-in-Some-Protect-clause-stays : goal.returns-in-Some-Protect-clause-stays
returns-in-Some-Protect-clause-stays g c =
    places_stay g.P.Source g.K.Sink g.I.Source g.O.Sink c.args.plan.now c.args.bays.now c.protect.new.bays c.args.report.now c.protect.new.report
    (by_memory c.protect.result (SinkLater (sink_view g.K.Sink c.args.report.now) (sink_view g.K.Sink c.protect.new.report))
    (λ none. report_stays g.K.Sink c.args.report.now c.protect.new.report (c.protect.ensures.memory none).1)
    (λ some. protect_later c.protect.result (tributary_of c.in-Some-Protect.slots c.in-Some-Protect.port) c.in-Some-Protect.turns c.in-Some-Protect.wait
    (ends_of (bays_view g.I.Source g.O.Sink c.args.bays.now) (sink_view g.K.Sink c.args.report.now)) (ends_of (bays_view g.I.Source g.O.Sink c.protect.new.bays) (sink_view g.K.Sink c.protect.new.report))
    (c.protect.ensures.ran some)))

-- ---- `bundle`

pub returns-in-Some-Bundle-clause-answers : goal.returns-in-Some-Bundle-clause-answers
returns-in-Some-Bundle-clause-answers g c = λ command form.
    let mine = rw c.in-Some-Bundle.field-0-is at c.in-Some-Bundle.ensures.form in
    let old = device g.P.Source g.K.Sink g.I.Source g.O.Sink c.args.plan.now c.args.bays.now c.args.report.now in
    let new = device g.P.Source g.K.Sink g.I.Source g.O.Sink c.args.plan.now c.bundle.new.bays c.bundle.new.report in
    let run = places_answered (OnlyBundled c.in-Some-Bundle.clients) (Bundles c.in-Some-Bundle.clients c.in-Some-Bundle.turns) c.bundle.result old new
    (λ none. same_places g.P.Source g.K.Sink g.I.Source g.O.Sink c.args.plan.now c.args.bays.now c.bundle.new.bays c.args.report.now c.bundle.new.report (c.bundle.ensures.memory none))
    (λ some. subst (λ ns. Bundles ns c.in-Some-Bundle.turns old new c.bundle.result) c.as_slice.ensures.same (c.bundle.ensures.ran some)) c.bundle.ensures.cause c.bundle.ensures.well
    (subst (λ ns. OnlyBundled ns old.bays new.bays) c.as_slice.ensures.same c.bundle.ensures.alone) in
    subst (λ k. Answers k old new (g.C.Chooser.asked c.args.chooser.now) (g.C.Chooser.asked c.args.chooser.now) c.status_of-in-Some-Bundle.result)
    (one_form (texts c.args.words.now) (Bundle c.in-Some-Bundle.clients c.in-Some-Bundle.turns) command mine form)
    (subst (λ answer. PlacesAnswers (OnlyBundled c.in-Some-Bundle.clients) (Bundles c.in-Some-Bundle.clients c.in-Some-Bundle.turns) old new answer) (sym c.status_of-in-Some-Bundle.ensures) run)

pub returns-in-Some-Bundle-clause-words : goal.returns-in-Some-Bundle-clause-words
returns-in-Some-Bundle-clause-words g c = (
  λ e. absurd (never_words c.bundle.result (sym c.status_of-in-Some-Bundle.ensures ∙ e)),
  λ none. absurd (none (Bundle c.in-Some-Bundle.clients c.in-Some-Bundle.turns) (rw c.in-Some-Bundle.field-0-is at c.in-Some-Bundle.ensures.form)),
)

pub returns-in-Some-Bundle-clause-refused : goal.returns-in-Some-Bundle-clause-refused
returns-in-Some-Bundle-clause-refused g c = λ refusal.
    places_refused c.args.bays.now c.bundle.new.bays c.args.report.now c.bundle.new.report c.bundle.result c.bundle.ensures.memory (subst IsRefusal c.status_of-in-Some-Bundle.ensures refusal)

pub returns-in-Some-Bundle-clause-stays : goal.returns-in-Some-Bundle-clause-stays
returns-in-Some-Bundle-clause-stays g c =
    places_stay g.P.Source g.K.Sink g.I.Source g.O.Sink c.args.plan.now c.args.bays.now c.bundle.new.bays c.args.report.now c.bundle.new.report
    (by_memory c.bundle.result (SinkLater (sink_view g.K.Sink c.args.report.now) (sink_view g.K.Sink c.bundle.new.report))
    (λ none. report_stays g.K.Sink c.args.report.now c.bundle.new.report (c.bundle.ensures.memory none).1)
    (λ some. bundle_later c.bundle.result c.in-Some-Bundle.clients c.in-Some-Bundle.turns (bays_view g.I.Source g.O.Sink c.args.bays.now) (bays_view g.I.Source g.O.Sink c.bundle.new.bays)
    (sink_view g.K.Sink c.args.report.now) (sink_view g.K.Sink c.bundle.new.report) (subst (λ ns. BundleRan ns c.in-Some-Bundle.turns (bays_view g.I.Source g.O.Sink c.args.bays.now) (bays_view g.I.Source g.O.Sink c.bundle.new.bays) (sink_view g.K.Sink c.args.report.now) (sink_view g.K.Sink c.bundle.new.report) c.bundle.result) c.as_slice.ensures.same (c.bundle.ensures.ran some))))

-- ---- `unbundle`

pub returns-in-Some-Unbundle-clause-answers : goal.returns-in-Some-Unbundle-clause-answers
returns-in-Some-Unbundle-clause-answers g c = λ command form.
    let mine = rw c.in-Some-Unbundle.field-0-is at c.in-Some-Unbundle.ensures.form in
    let old = device g.P.Source g.K.Sink g.I.Source g.O.Sink c.args.plan.now c.args.bays.now c.args.report.now in
    let new = device g.P.Source g.K.Sink g.I.Source g.O.Sink c.args.plan.now c.unbundle.new.bays c.unbundle.new.report in
    let run = places_answered OnlyUnbundled (Unbundles c.in-Some-Unbundle.turns) c.unbundle.result old new
    (λ none. same_places g.P.Source g.K.Sink g.I.Source g.O.Sink c.args.plan.now c.args.bays.now c.unbundle.new.bays c.args.report.now c.unbundle.new.report (c.unbundle.ensures.memory none))
    c.unbundle.ensures.ran c.unbundle.ensures.cause c.unbundle.ensures.well c.unbundle.ensures.alone in
    subst (λ k. Answers k old new (g.C.Chooser.asked c.args.chooser.now) (g.C.Chooser.asked c.args.chooser.now) c.status_of-in-Some-Unbundle.result)
    (one_form (texts c.args.words.now) (Unbundle c.in-Some-Unbundle.turns) command mine form)
    (subst (λ answer. PlacesAnswers OnlyUnbundled (Unbundles c.in-Some-Unbundle.turns) old new answer) (sym c.status_of-in-Some-Unbundle.ensures) run)

pub returns-in-Some-Unbundle-clause-words : goal.returns-in-Some-Unbundle-clause-words
returns-in-Some-Unbundle-clause-words g c = (
  λ e. absurd (never_words c.unbundle.result (sym c.status_of-in-Some-Unbundle.ensures ∙ e)),
  λ none. absurd (none (Unbundle c.in-Some-Unbundle.turns) (rw c.in-Some-Unbundle.field-0-is at c.in-Some-Unbundle.ensures.form)),
)

pub returns-in-Some-Unbundle-clause-refused : goal.returns-in-Some-Unbundle-clause-refused
returns-in-Some-Unbundle-clause-refused g c = λ refusal.
    places_refused c.args.bays.now c.unbundle.new.bays c.args.report.now c.unbundle.new.report c.unbundle.result c.unbundle.ensures.memory (subst IsRefusal c.status_of-in-Some-Unbundle.ensures refusal)

pub returns-in-Some-Unbundle-clause-stays : goal.returns-in-Some-Unbundle-clause-stays
returns-in-Some-Unbundle-clause-stays g c =
    places_stay g.P.Source g.K.Sink g.I.Source g.O.Sink c.args.plan.now c.args.bays.now c.unbundle.new.bays c.args.report.now c.unbundle.new.report
    (by_memory c.unbundle.result (SinkLater (sink_view g.K.Sink c.args.report.now) (sink_view g.K.Sink c.unbundle.new.report))
    (λ none. report_stays g.K.Sink c.args.report.now c.unbundle.new.report (c.unbundle.ensures.memory none).1)
    (λ some. unbundle_later c.unbundle.result c.in-Some-Unbundle.turns (bays_view g.I.Source g.O.Sink c.args.bays.now) (bays_view g.I.Source g.O.Sink c.unbundle.new.bays)
    (sink_view g.K.Sink c.args.report.now) (sink_view g.K.Sink c.unbundle.new.report) (c.unbundle.ensures.ran some)))
