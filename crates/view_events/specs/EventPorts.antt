-- API: what is seen of a sink that writes events: it tells no bytes.
use Rattle.std.specs.Prelude.{ℕ, ◌+◌, ◌-◌, ◌^◌, min}
use Rattle.view_events.specs.declared.event_sink.EventSink.{EventSink}

-- how often the sink below has failed, and it by itself
abbrev pub event_faults : {K : Type 0} → (K → ℕ) → EventSink K → ℕ
event_faults faults sink = min (faults sink.inner + sink.own) (2 ^ 64 - 1)
