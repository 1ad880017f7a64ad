use Rattle.view_events.proofs.Taking.{nothing_taken}
use Rattle.view_events.proofs.event_sink.EventSink.new.Goals as goal

pub returns : goal.returns
returns g c = nothing_taken g.K.Sink _ c.new-line.ensures c.new-events.ensures.stands
