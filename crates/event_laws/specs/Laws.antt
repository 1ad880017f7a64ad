-- API: what is proved of the events of a view.
use Rattle.std.specs.Prelude.{◌≡◌, ◌<◌, ◌≤◌, ℕ, Bool, List, All, None}
use Rattle.std.specs.List.{flat_map}
use Rattle.otn_base.specs.LineSlots.{slots_of}
use Rattle.otn_base.specs.SlotList.{IsSlotList}
use Rattle.otn_base.specs.declared.line_kind.LineKind.{LineKind}
use Rattle.port_base.specs.PortViews.{SinkView}
use Rattle.port_base.specs.declared.sink.Sink as sink
use Rattle.line_side.specs.LineForm.{LineForm, size_of}
use Rattle.line_side.specs.declared.ending.Ending.{Ending}
use Rattle.line_view.specs.ViewText.{Showing, view_text}
use Rattle.line_view.specs.Watching.{IsOnLine, asked_of}
use Rattle.line_view.specs.declared.shown.Shown.{Shown}
use Rattle.plan_file.specs.Answer.{fault_in}
use Rattle.plan_file.specs.declared.plan.Plan.{Plan}
use Rattle.plan_views.specs.PlanViews.{form_by, shown_by}
use Rattle.plan_views.specs.declared.side.Side.{Side}
use Rattle.view_events.specs.Stands.{HasTaken, HasTold}
use Rattle.view_events.specs.ViewLines.{AreViewLines, IsWord, line_text}
use Rattle.view_events.specs.declared.event_sink.EventSink.{EventSink}
use Rattle.event_laws.specs.ViewOf.{view_lines}

-- The text of each view is that of its lines, one after another.
abbrev pub HasTheseLines : Type 0
HasTheseLines = (form : LineForm) (shows : List Showing) (ending : Ending) (available : List ℕ)
    → view_text form shows ending available ≡ flat_map line_text (view_lines form shows ending available)

-- A byte is below 256.
abbrev pub IsByte : ℕ → Type 0
IsByte byte = byte < 256

-- A tributary that a view of a line of this form can show: its name is a word, or a mark, and its port and its slots
-- are those of such a line.
pub record IsShown (form : LineForm) (x : Showing) : Type 0 where
  pub name : IsWord x.name
  pub line : x.own.line_slots ≡ size_of form
  pub port : x.own.port ≤ size_of form
  pub slots : IsSlotList (size_of form) x.own.slots

-- A tributary that is asked for on a line of this kind is one, where its name is a word.
abbrev pub AskedAreShown : Type 0
AskedAreShown = (kind : LineKind) (scrambled : Bool) (asked : Shown) → IsOnLine kind asked
    → IsSlotList (slots_of asked.slots.kind) asked.slots.list → IsWord asked.name.bytes
    → IsShown (record { kind = kind; scrambled = scrambled }) (asked_of asked)

-- So are the connections of an accepted plan on a line of it.
abbrev pub PlannedAreShown : Type 0
PlannedAreShown = (plan : Plan) (side : Side) (line : ℕ) → fault_in plan ≡ None
    → All (IsShown (form_by plan side line)) (shown_by plan side line)

-- The numbers of these lines are in their ranges: Cm and CnD, the bytes of a turn, and the counts of the line too.
abbrev pub AreInRange : Type 0
AreInRange = (form : LineForm) (shows : List Showing) (ending : Ending) (available : List ℕ) → All IsByte available
    → All (IsShown form) shows → AreViewLines (view_lines form shows ending available)

-- A sink of events that took the text of a view, in whatever pieces, wrote the events of its lines, and no other bytes,
-- to the sink below it.
abbrev pub WritesItsEvents : {K : Type 0} → sink.Ghosts K → Type 0
WritesItsEvents {K} k = (form : LineForm) (shows : List Showing) (ending : Ending) (available : List ℕ)
    → All IsByte available → All (IsShown form) shows → (first : SinkView) (events : EventSink K)
    → HasTaken k first (view_text form shows ending available) events
    → HasTold k first (view_lines form shows ending available) events
