-- API: how the state of the events and of their sink stands to the lines of a view that they took.
use Rattle.std.specs.Prelude.{◌≡◌, ◌≢◌, ℕ, List, [], ◌∷◌, ◌++◌, map}
use Rattle.port_base.specs.PortViews.{SinkGot, SinkView, sink_view}
use Rattle.port_base.specs.declared.sink.Sink as sink
use Rattle.view_events.specs.EventsOf.{OneSaid, Said, events_of, line_events, nothing_said, said_after, said_by, turn_now}
use Rattle.view_events.specs.LineEvents.{LineStands}
use Rattle.view_events.specs.SlotEvents.{SlotStands}
use Rattle.view_events.specs.TributaryEvents.{TributaryStands}
use Rattle.view_events.specs.ViewLines.{AreViewLines, IsViewLine, ViewLine, line_text, rest_of, whole_lines}
use Rattle.view_events.specs.declared.event_sink.EventSink.{EventSink}
use Rattle.view_events.specs.declared.events.Events.{Events}
use Rattle.view_events.specs.declared.tributary.Tributary.{Tributary}

-- ---- the state of the events

-- a tributary of which this was said, in a turn at least
pub record OneStands (one : OneSaid) (tributary : Tributary) : Type 0 where
  pub label : tributary.label.items ≡ one.label
  pub some : one.past ≢ []
  pub stands : TributaryStands one.past tributary.tally

-- each of them, in the same order
abbrev pub EachStands : List OneSaid → List Tributary → Type 0
EachStands [] [] = Unit {0}
EachStands [] (tributary ∷ tributaries) = ⊥
EachStands (one ∷ each) [] = ⊥
EachStands (one ∷ each) (tributary ∷ tributaries) = OneStands one tributary × EachStands each tributaries

-- of all that this was said
pub record EventsStand (said : Said) (events : Events) : Type 0 where
  pub turn : events.turn ≡ turn_now said.turns
  pub line : LineStands said.turns events.line
  pub slots : SlotStands said.bytes events.slots
  pub each : EachStands said.each events.tributaries.items

-- a line was told after that: this text became that one by its events
pub record IsTold (said : Said) (line : ViewLine) (new : Events) (was is : List ℕ) : Type 0 where
  pub stands : EventsStand (said_after said line) new
  pub text : is ≡ was ++ line_events said line

-- ---- the sink

-- the lines of a view were told, from the moment in which the sink below was so: it got their events
pub record HasTold {K : Type 0} (k : sink.Ghosts K) (first : SinkView) (lines : List ViewLine) (events : EventSink K)
    : Type 0 where
  pub stands : EventsStand (said_by nothing_said lines) events.events
  pub wrote : SinkGot first (events_of lines) (sink_view k events.inner)

-- A text was taken, in whatever pieces, from the moment in which the sink below was so: where its whole lines are lines
-- of a view, the sink below got their events, and no other bytes.
pub record HasTaken {K : Type 0} (k : sink.Ghosts K) (first : SinkView) (text : List ℕ) (events : EventSink K)
    : Type 0 where
  pub waits : events.line.items ≡ rest_of text
  pub told : (lines : List ViewLine) → AreViewLines lines → whole_lines text ≡ map line_text lines
      → HasTold k first lines events

-- The line that waits was ended: no bytes of it are left, and where it is the line of a view, its events were written.
pub record IsEnded {K : Type 0} (k : sink.Ghosts K) (old new : EventSink K) : Type 0 where
  pub waits : new.line.items ≡ []
  pub told : (said : Said) (line : ViewLine) → IsViewLine line → old.line.items ≡ line_text line
      → EventsStand said old.events → EventsStand (said_after said line) new.events
      × SinkGot (sink_view k old.inner) (line_events said line) (sink_view k new.inner)
