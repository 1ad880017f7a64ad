use Rattle.std.proofs.Common.{◌≡◌, ◌<◌, ℕ, inl, inr, refl, rules, subst, sym}
use Rattle.port_base.specs.PortViews.{SinkWrites, sink_view}
use Rattle.port_base.specs.Racks.{bays_view}
use Rattle.port_base.specs.declared.drain.Written.TheVariants as written
use Rattle.bundle_command.specs.Steps.Channels.{HasChannel}
use Rattle.bundle_command.specs.Steps.Settled.{lines_of}
use Rattle.bundle_command.specs.declared.channel.Channel.{Channel}
use Rattle.bundle_command.proofs.Turning.{finishes, settled_places}
use Rattle.bundle_command.proofs.command.finish.Goals as goal

pub write_channels-requires : goal.write_channels-requires
write_channels-requires g c = record {
  places = subst (λ cs. (k : ℕ) (channel : Channel) → HasChannel cs k channel → channel.client < 16) (sym c.deref.ensures.value) (settled_places (bays_view g.I.Source g.O.Sink c.args.bays.now) (bays_view g.I.Source g.O.Sink c.settle.new.bays) c.args.parts.now c.settle.new.weaving c.requires.ready c.settle.ensures.settled);
}

pub ended-requires-clause-places : goal.ended-requires-clause-places
ended-requires-clause-places g c =
    settled_places (bays_view g.I.Source g.O.Sink c.args.bays.now) (bays_view g.I.Source g.O.Sink c.settle.new.bays) c.args.parts.now c.settle.new.weaving c.requires.ready c.settle.ensures.settled

pub returns-then-eq-clause-ran : goal.returns-then-eq-clause-ran
returns-then-eq-clause-ran g c = λ clients first h.
    let was = bays_view g.I.Source g.O.Sink c.args.bays.now in
    let is = bays_view g.I.Source g.O.Sink c.settle.new.bays in
    let wrote = subst (λ cs. SinkWrites c.write_channels.result (sink_view g.K.Sink c.args.report.now) (lines_of cs is) (sink_view g.K.Sink c.write_channels.new.report)) c.deref.ensures.value c.write_channels.ensures in
    let lost : c.write_channels.result ≡ written.Lost = search rules in
    finishes clients first was is (sink_view g.K.Sink c.args.report.now) (sink_view g.K.Sink c.write_channels.new.report) c.args.turns c.args.parts.now c.settle.new.weaving _ c.requires.some c.requires.turns c.settle.ensures.alone
    (λ emitted w. c.settle.ensures.settled clients first emitted w)
    (inl (refl, subst (λ r. SinkWrites r (sink_view g.K.Sink c.args.report.now) (lines_of c.settle.new.weaving.channels.items is) (sink_view g.K.Sink c.write_channels.new.report)) lost wrote)) h

pub returns-clause-ran : goal.returns-clause-ran
returns-clause-ran g c = λ clients first h.
    let was = bays_view g.I.Source g.O.Sink c.args.bays.now in
    let is = bays_view g.I.Source g.O.Sink c.settle.new.bays in
    let wrote = subst (λ cs. SinkWrites c.write_channels.result (sink_view g.K.Sink c.args.report.now) (lines_of cs is) (sink_view g.K.Sink c.write_channels.new.report)) c.deref.ensures.value c.write_channels.ensures in
    let whole : c.write_channels.result ≡ written.Whole = search rules in
    finishes clients first was is (sink_view g.K.Sink c.args.report.now) (sink_view g.K.Sink c.write_channels.new.report) c.args.turns c.args.parts.now c.settle.new.weaving c.ended.result c.requires.some c.requires.turns
    c.settle.ensures.alone (λ emitted w. c.settle.ensures.settled clients first emitted w)
    (inr (subst (λ r. SinkWrites r (sink_view g.K.Sink c.args.report.now) (lines_of c.settle.new.weaving.channels.items is) (sink_view g.K.Sink c.write_channels.new.report)) whole wrote, c.ended.ensures)) h
