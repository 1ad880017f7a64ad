-- Believed: what is seen of all that a command is handed: the plan's source, the places and the report.
use Rattle.std.specs.Prelude.{ℕ, List}
use Rattle.port_base.specs.Given.{Gave}
use Rattle.port_base.specs.OnePlace.{OnlyLineIn}
use Rattle.port_base.specs.PortViews.{SourceView, SinkView, SourceLater, SinkLater, source_view, sink_view}
use Rattle.port_base.specs.Racks.{bays_view}
use Rattle.port_base.specs.Views.{BaysView, InView, line_in_at}
use Rattle.port_base.specs.declared.bays.Rack.{Rack}
use Rattle.port_base.specs.declared.sink.Sink as sink
use Rattle.port_base.specs.declared.source.Source as source

-- all that the top call is handed but its words and the chooser
pub record Device : Type 0 where
  pub plan : SourceView
  pub bays : BaysView
  pub report : SinkView

-- what is seen of these, by the ghosts of the plan's source, the report, and the ports of the places
abbrev pub device : {P K I O : Type 0} → source.Ghosts P → sink.Ghosts K → source.Ghosts I → sink.Ghosts O → P
    → Rack I O → K → Device
device p k i o plan bays report = record {
  plan = source_view p plan;
  bays = bays_view i o bays;
  report = sink_view k report;
}

-- line input 0
abbrev pub line_zero : Device → InView
line_zero d = line_in_at d.bays 0

-- What stays, whatever the command and its answer: the plan's source and the report are boxed as before and tell where
-- they told: the source what it told but for bytes taken from the front, the report what it had got and perhaps more
-- behind it; their counts of faults did not fall.
pub record Stays (old new : Device) : Type 0 where
  pub plan : SourceLater old.plan new.plan
  pub report : SinkLater old.report new.report

-- No place but line input 0 has changed: all others are seen as they were. That one gave these bytes, or none, and dies
-- only where its port's count of faults rose or stands at its end.
pub record OnlyLine (old new : Device) : Type 0 where
  pub line : (read : List ℕ) × Gave (line_zero old) read (line_zero new)
  pub only : OnlyLineIn 0 old.bays new.bays
