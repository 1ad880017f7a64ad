-- What the top call answers for, of a command over line input 0.
use Rattle.std.proofs.Common.{◌≡◌, ◌≢◌, ◌∙◌, ℕ, List, [], Some, refl, sym, ap, subst, slice_get}
use Rattle.port_base.proofs.BaysLaws.{only_line_in, line_in_seen, line_in_set}
use Rattle.port_base.proofs.GivenLaws.{gave_none}
use Rattle.port_base.proofs.PortLaws.{sink_later_none, source_later_none}
use Rattle.port_base.specs.Given.{Gave}
use Rattle.port_base.specs.InPlace.{in_view}
use Rattle.port_base.specs.Racks.{bays_view, line_ins, with_line_in}
use Rattle.port_base.specs.Views.{line_in_at}
use Rattle.port_base.specs.declared.bays.Rack.{Rack}
use Rattle.port_base.specs.declared.in_place.InPlaceOf.{InPlaceOf}
use Rattle.port_base.specs.declared.sink.Sink as sink
use Rattle.port_base.specs.declared.source.Source as source
use Rattle.tributary_model.specs.Places.{Tributary}
use Rattle.line_tool.specs.Answers.{LineAnswers, PullRan, SlotRan}
use Rattle.port_base.specs.PortViews.{SinkView, sink_view, source_view}
use Rattle.command_base.specs.Device.{Device, OnlyLine, Stays, device, line_zero}
use Rattle.command_base.specs.Ends.{ReportAfter, line_status}
use Rattle.check_command.specs.PlanCheck.{CheckRun}
use Rattle.line_commands.specs.PullRuns.{PullEnded}
use Rattle.command_base.specs.AnswerWords.{CountsBy, IsRefusal}
use Rattle.line_commands.specs.SlotRuns.{SlotEnded}
use Rattle.port_base.specs.declared.ended.Ended.{Ended}
use Rattle.port_base.specs.declared.ended.Ended.TheVariants.{Done, Unfinished, Cut, ReportFault, Memory}
use Rattle.command_base.specs.declared.status.Status.{Status}
use Rattle.command_base.specs.declared.status.Status.TheVariants as status
use Rattle.line_commands.proofs.PullTable.{pull_ran}
use Rattle.line_tool.proofs.PutBack.{put_back}
use Rattle.line_commands.proofs.SlotTable.{slot_ran}

-- ---- the answers, by how the command ended

-- no command over places answers that the words are none
pub never_words : (ended : Ended) → line_status ended ≢ status.Words
never_words Done e = cc
never_words Unfinished e = cc
never_words Cut e = cc
never_words ReportFault e = cc
never_words Memory e = cc

-- of the answers before anything was done it gives want of memory alone
pub refused_for : (ended : Ended) (A : Type 0) → (ended ≡ Memory → A) → IsRefusal (line_status ended) → A
refused_for Memory A a refusal = a refl
refused_for Done A a refusal = absurd refusal
refused_for Unfinished A a refusal = absurd refusal
refused_for Cut A a refusal = absurd refusal
refused_for ReportFault A a refusal = absurd refusal

-- a report's count of faults
line_counts : (ended : Ended) (old new : SinkView) → ReportAfter (Some ended) old new → CountsBy status.ReportFault (line_status ended) old.faults new.faults
line_counts Done old new report = record { fault = λ e. absurd (cc); calm = λ _. report.faults }
line_counts Unfinished old new report = record { fault = λ e. absurd (cc); calm = λ _. report.faults }
line_counts Cut old new report = record { fault = λ e. absurd (cc); calm = λ _. report.faults }
line_counts ReportFault old new report = record { fault = λ _. report.faults; calm = λ no. absurd (no refl) }
line_counts Memory old new report = record { fault = λ e. absurd (cc); calm = λ _. report.faults }

line_answers : (Ran : (old new : Device) → Status → Type 0) (ended : Ended) (old new : Device) → (ended ≡ Memory → new ≡ old)
    → (ended ≢ Memory → Ran old new (line_status ended)) → CountsBy status.ReportFault (line_status ended) old.report.faults new.report.faults
    → OnlyLine old new → LineAnswers Ran old new (line_status ended)
line_answers Ran Memory old new same run counts alone = record { answer = tt; counts = counts; alone = alone; memory = λ _. same refl; ran = λ no. absurd (no refl) }
line_answers Ran Done old new same run counts alone = record { answer = tt; counts = counts; alone = alone; memory = λ e. absurd (cc); ran = λ _. run (λ e. cc) }
line_answers Ran Unfinished old new same run counts alone = record { answer = tt; counts = counts; alone = alone; memory = λ e. absurd (cc); ran = λ _. run (λ e. cc) }
line_answers Ran Cut old new same run counts alone = record { answer = tt; counts = counts; alone = alone; memory = λ e. absurd (cc); ran = λ _. run (λ e. cc) }
line_answers Ran ReportFault old new same run counts alone = record { answer = tt; counts = counts; alone = alone; memory = λ e. absurd (cc); ran = λ _. run (λ e. cc) }

slot_answers : (ended : Ended) (slot : ℕ) (old new : Device) → (ended ≡ Memory → new ≡ old)
    → (ended ≢ Memory → SlotEnded slot (line_zero old) (line_zero new) old.report.got new.report.got ended) → ReportAfter (Some ended) old.report new.report
    → OnlyLine old new → LineAnswers (SlotRan slot) old new (line_status ended)
slot_answers ended slot old new same run report alone =
    line_answers (SlotRan slot) ended old new same (λ some. slot_ran ended slot old new (run some)) (line_counts ended old.report new.report report) alone

pull_answers : (ended : Ended) (own : Tributary) (old new : Device) → (ended ≡ Memory → new ≡ old)
    → (ended ≢ Memory → PullEnded own (line_zero old) (line_zero new) old.report.got new.report.got ended) → ReportAfter (Some ended) old.report new.report
    → OnlyLine old new → LineAnswers (PullRan own) old new (line_status ended)
pull_answers ended own old new same run report alone =
    line_answers (PullRan own) ended old new same (λ some. pull_ran ended own old new (run some)) (line_counts ended old.report new.report report) alone

-- ---- over all that the top call is handed

-- the device after a command did this with the place of line input 0, and this with the report
abbrev after_line : {P K I O : Type 0} → source.Ghosts P → sink.Ghosts K → source.Ghosts I → sink.Ghosts O → P → Rack I O → InPlaceOf I → K → Device
after_line p k i o plan rack line report = device p k i o plan (with_line_in rack 0 line) report

same_device : {P K I O : Type 0} (p : source.Ghosts P) (k : sink.Ghosts K) (i : source.Ghosts I) (o : sink.Ghosts O) (plan : P) (rack : Rack I O) (x y : InPlaceOf I) (report new : K)
    → slice_get (line_ins rack) 0 ≡ Some x → (y ≡ x) × (new ≡ report) → after_line p k i o plan rack y new ≡ device p k i o plan rack report
same_device p k i o plan rack x y report new there same =
    ap (λ bays. device p k i o plan bays new) (put_back rack x y there same.0) ∙ ap (λ r. device p k i o plan rack r) same.1

-- what was taken of the line
line_gave : {I : Type 0} (i : source.Ghosts I) (x y : InPlaceOf I) (ended : Ended) → (ended ≡ Memory → y ≡ x)
    → (ended ≢ Memory → (read : List ℕ) × Gave (in_view i x) read (in_view i y)) → (read : List ℕ) × Gave (in_view i x) read (in_view i y)
line_gave i x y Memory same gave = ([], subst (λ place. Gave (in_view i x) [] (in_view i place)) (sym (same refl)) (gave_none (in_view i x)))
line_gave i x y Done same gave = gave (λ e. cc)
line_gave i x y Unfinished same gave = gave (λ e. cc)
line_gave i x y Cut same gave = gave (λ e. cc)
line_gave i x y ReportFault same gave = gave (λ e. cc)

-- no other place was asked
only_line : {P K I O : Type 0} (p : source.Ghosts P) (k : sink.Ghosts K) (i : source.Ghosts I) (o : sink.Ghosts O) (plan : P) (rack : Rack I O) (x y : InPlaceOf I) (report new : K)
    (ended : Ended) → slice_get (line_ins rack) 0 ≡ Some x → (ended ≡ Memory → (y ≡ x) × (new ≡ report))
    → (ended ≢ Memory → (read : List ℕ) × Gave (in_view i x) read (in_view i y)) → OnlyLine (device p k i o plan rack report) (after_line p k i o plan rack y new)
only_line p k i o plan rack x y report new ended there memory gave = record {
  line =
      subst (λ first. (read : List ℕ) × Gave first read (line_in_at (bays_view i o (with_line_in rack 0 y)) 0)) (sym (line_in_seen i o rack 0 x there))
      (subst (λ now. (read : List ℕ) × Gave (in_view i x) read now) (sym (line_in_set i o rack 0 x y there)) (line_gave i x y ended (λ none. (memory none).0) gave));
  only = only_line_in i o rack 0 y;
}

pub slot_answered : {P K I O : Type 0} (p : source.Ghosts P) (k : sink.Ghosts K) (i : source.Ghosts I) (o : sink.Ghosts O) (plan : P) (rack : Rack I O) (x y : InPlaceOf I) (report new : K)
    (ended : Ended) (slot : ℕ) → slice_get (line_ins rack) 0 ≡ Some x → (ended ≡ Memory → (y ≡ x) × (new ≡ report))
    → (ended ≢ Memory → SlotEnded slot (in_view i x) (in_view i y) (k.got report) (k.got new) ended) → ReportAfter (Some ended) (sink_view k report) (sink_view k new)
    → LineAnswers (SlotRan slot) (device p k i o plan rack report) (after_line p k i o plan rack y new) (line_status ended)
slot_answered p k i o plan rack x y report new ended slot there memory run after =
    slot_answers ended slot (device p k i o plan rack report) (after_line p k i o plan rack y new) (λ none. same_device p k i o plan rack x y report new there (memory none))
    (subst (λ first. (ended ≢ Memory → SlotEnded slot first (line_in_at (bays_view i o (with_line_in rack 0 y)) 0) (k.got report) (k.got new) ended)) (sym (line_in_seen i o rack 0 x there))
    (subst (λ now. (ended ≢ Memory → SlotEnded slot (in_view i x) now (k.got report) (k.got new) ended)) (sym (line_in_set i o rack 0 x y there)) run))
    after
    (only_line p k i o plan rack x y report new ended there memory (λ some. let h = run some in (h.read, h.gave)))

pub pull_answered : {P K I O : Type 0} (p : source.Ghosts P) (k : sink.Ghosts K) (i : source.Ghosts I) (o : sink.Ghosts O) (plan : P) (rack : Rack I O) (x y : InPlaceOf I) (report new : K)
    (ended : Ended) (own : Tributary) → slice_get (line_ins rack) 0 ≡ Some x → (ended ≡ Memory → (y ≡ x) × (new ≡ report))
    → (ended ≢ Memory → PullEnded own (in_view i x) (in_view i y) (k.got report) (k.got new) ended) → ReportAfter (Some ended) (sink_view k report) (sink_view k new)
    → LineAnswers (PullRan own) (device p k i o plan rack report) (after_line p k i o plan rack y new) (line_status ended)
pull_answered p k i o plan rack x y report new ended own there memory run after =
    pull_answers ended own (device p k i o plan rack report) (after_line p k i o plan rack y new) (λ none. same_device p k i o plan rack x y report new there (memory none))
    (subst (λ first. (ended ≢ Memory → PullEnded own first (line_in_at (bays_view i o (with_line_in rack 0 y)) 0) (k.got report) (k.got new) ended)) (sym (line_in_seen i o rack 0 x there))
    (subst (λ now. (ended ≢ Memory → PullEnded own (in_view i x) now (k.got report) (k.got new) ended)) (sym (line_in_set i o rack 0 x y there)) run))
    after
    (only_line p k i o plan rack x y report new ended there memory (λ some. let h = run some in (h.read, h.gave)))

-- after an answer that comes before anything was done, all places and the report are as they were
pub refused_line : {P K O : Type 0} (rack : Rack P O) (x y : InPlaceOf P) (report new : K) (ended : Ended) → slice_get (line_ins rack) 0 ≡ Some x
    → (ended ≡ Memory → (y ≡ x) × (new ≡ report)) → IsRefusal (line_status ended) → (with_line_in rack 0 y ≡ rack) × (new ≡ report)
refused_line rack x y report new ended there memory refusal =
    let same = refused_for ended ((y ≡ x) × (new ≡ report)) memory refusal in
    (put_back rack x y there same.0, same.1)

-- ---- what stays

pub line_stays : {P K I O : Type 0} (p : source.Ghosts P) (k : sink.Ghosts K) (i : source.Ghosts I) (o : sink.Ghosts O) (plan : P) (rack : Rack I O) (y : InPlaceOf I) (report new : K)
    (ended : Ended) → ReportAfter (Some ended) (sink_view k report) (sink_view k new) → Stays (device p k i o plan rack report) (after_line p k i o plan rack y new)
line_stays p k i o plan rack y report new ended after = record { plan = source_later_none (source_view p plan); report = after.later }

-- ---- `check`

-- the device after a `check`, which left the places alone
pub check_stays : {P K I O : Type 0} (p : source.Ghosts P) (k : sink.Ghosts K) (i : source.Ghosts I) (o : sink.Ghosts O) (plan now : P) (rack : Rack I O) (report new : K) (answer : Status)
    → CheckRun (source_view p plan) (source_view p now) (sink_view k report) (sink_view k new) answer
    → Stays (device p k i o plan rack report) (device p k i o now rack new)
check_stays p k i o plan now rack report new answer run = record {
  plan = run.plan;
  report = run.report;
}

-- nothing was done
pub nothing_stays : {P K I O : Type 0} (p : source.Ghosts P) (k : sink.Ghosts K) (i : source.Ghosts I) (o : sink.Ghosts O) (plan : P) (rack : Rack I O) (report : K)
    → Stays (device p k i o plan rack report) (device p k i o plan rack report)
nothing_stays p k i o plan rack report = record {
  plan = source_later_none (source_view p plan);
  report = sink_later_none (sink_view k report);
}
