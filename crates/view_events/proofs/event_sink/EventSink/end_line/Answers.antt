use Rattle.std.proofs.Common.{◌∙◌, ◌++◌, sym, ap, subst}
use Rattle.port_base.specs.PortViews.{SinkGot, sink_view}
use Rattle.view_events.specs.EventsOf.{line_events, said_after}
use Rattle.view_events.specs.Stands.{EventsStand}
use Rattle.view_events.proofs.event_sink.EventSink.end_line.Goals as goal

pub returns-in_ok-send-in-Ok-clause-ended : goal.returns-in_ok-send-in-Ok-clause-ended
returns-in_ok-send-in-Ok-clause-ended g c = record {
  waits = ap (λ l. l.items) c.in_ok-send-in-Ok.ensures.line ∙ c.clear-2.ensures;
  told = (λ said line h is stands.
      let t = c.in-Ok.ensures.told said line h (c.as_slice.ensures.value ∙ is) stands in
      let e = c.in_ok-send-in-Ok.ensures in (
        subst (EventsStand (said_after said line)) (sym e.events) t.stands,
        subst (λ b. SinkGot (sink_view g.K.Sink c.args.self.now.inner) b (sink_view g.K.Sink c.send.new.self.inner))
            (t.text ∙ ap (λ x. x ++ line_events said line) c.clear.ensures.items) e.wrote,
      ));
}
