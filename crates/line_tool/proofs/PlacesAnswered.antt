-- What the top call answers for, of a command over some of the places.
use Rattle.std.proofs.Common.{◌≡◌, ◌≢◌, ◌∙◌, refl, sym, ap, subst}
use Rattle.port_base.proofs.PortLaws.{sink_later_none, source_later_none}
use Rattle.port_base.specs.Bytes.{HasFailed}
use Rattle.port_base.specs.PortViews.{SinkLater, SinkView, sink_view, source_view}
use Rattle.port_base.specs.Views.{BaysView}
use Rattle.port_base.specs.declared.bays.Rack.{Rack}
use Rattle.port_base.specs.declared.ended.Ended.{Ended}
use Rattle.port_base.specs.declared.ended.Ended.TheVariants.{Done, Unfinished, Cut, ReportFault, Memory}
use Rattle.port_base.specs.declared.sink.Sink as sink
use Rattle.port_base.specs.declared.source.Source as source
use Rattle.line_tool.specs.Answers.{PlacesAnswers}
use Rattle.command_base.specs.AnswerWords.{CountsBy, IsRefusal}
use Rattle.command_base.specs.Device.{Device, Stays, device}
use Rattle.command_base.specs.Ends.{line_status}
use Rattle.command_base.specs.declared.status.Status.TheVariants as status
use Rattle.line_tool.proofs.Answered.{refused_for}

-- the report's count of faults
places_counts : (ended : Ended) (old new : SinkView) → (ended ≡ ReportFault → HasFailed old.faults new.faults) → (ended ≢ ReportFault → new.faults ≡ old.faults)
    → CountsBy status.ReportFault (line_status ended) old.faults new.faults
places_counts Done old new cause well = record { fault = λ e. absurd (cc); calm = λ _. well (λ e. cc) }
places_counts Unfinished old new cause well = record { fault = λ e. absurd (cc); calm = λ _. well (λ e. cc) }
places_counts Cut old new cause well = record { fault = λ e. absurd (cc); calm = λ _. well (λ e. cc) }
places_counts ReportFault old new cause well = record { fault = λ _. cause refl; calm = λ no. absurd (no refl) }
places_counts Memory old new cause well = record { fault = λ e. absurd (cc); calm = λ _. well (λ e. cc) }

-- the same device, where places and report are as they were
pub same_places : {P K I O : Type 0} (p : source.Ghosts P) (k : sink.Ghosts K) (i : source.Ghosts I) (o : sink.Ghosts O) (plan : P) (rack now : Rack I O) (report new : K)
    → (now ≡ rack) × (new ≡ report) → device p k i o plan now new ≡ device p k i o plan rack report
same_places p k i o plan rack now report new same = ap (λ bays. device p k i o plan bays new) same.0 ∙ ap (λ r. device p k i o plan rack r) same.1

pub places_answered : (Only : (old new : BaysView) → Type 0) (Ran : (old new : Device) → Ended → Type 0) (ended : Ended) (old new : Device)
    → (ended ≡ Memory → new ≡ old) → (ended ≢ Memory → Ran old new ended)
    → (ended ≡ ReportFault → HasFailed old.report.faults new.report.faults) → (ended ≢ ReportFault → new.report.faults ≡ old.report.faults)
    → Only old.bays new.bays → PlacesAnswers Only Ran old new (line_status ended)
places_answered Only Ran ended old new memory ran cause well alone = record {
  ended = ended;
  answer = refl;
  counts = places_counts ended old.report new.report cause well;
  memory = memory;
  alone = alone;
  ran = ran;
}

-- what stays, where the command left the plan's source alone
pub places_stay : {P K I O : Type 0} (p : source.Ghosts P) (k : sink.Ghosts K) (i : source.Ghosts I) (o : sink.Ghosts O) (plan : P) (rack now : Rack I O) (report new : K)
    → SinkLater (sink_view k report) (sink_view k new) → Stays (device p k i o plan rack report) (device p k i o plan now new)
places_stay p k i o plan rack now report new later = record { plan = source_later_none (source_view p plan); report = later }

-- the report, which is as it was for want of memory
pub report_stays : {K : Type 0} (k : sink.Ghosts K) (report new : K) → new ≡ report → SinkLater (sink_view k report) (sink_view k new)
report_stays k report new same = subst (λ r. SinkLater (sink_view k report) (sink_view k r)) (sym same) (sink_later_none (sink_view k report))

pub by_memory : (ended : Ended) (A : Type 0) → (ended ≡ Memory → A) → (ended ≢ Memory → A) → A
by_memory Memory A none some = none refl
by_memory Done A none some = some (λ e. cc)
by_memory Unfinished A none some = some (λ e. cc)
by_memory Cut A none some = some (λ e. cc)
by_memory ReportFault A none some = some (λ e. cc)

-- after an answer that comes before anything was done, all places and the report are as they were
pub places_refused : {K I O : Type 0} (rack now : Rack I O) (report new : K) (ended : Ended) → (ended ≡ Memory → (now ≡ rack) × (new ≡ report))
    → IsRefusal (line_status ended) → (now ≡ rack) × (new ≡ report)
places_refused rack now report new ended memory refusal = refused_for ended ((now ≡ rack) × (new ≡ report)) memory refusal
