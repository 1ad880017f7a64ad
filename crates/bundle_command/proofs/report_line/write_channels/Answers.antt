use Rattle.std.proofs.Common.{◌≡◌, arith, rules, subst}
use Rattle.port_base.specs.PortViews.{SinkWrites, sink_view}
use Rattle.port_base.specs.Racks.{bays_view}
use Rattle.port_base.specs.declared.drain.Written.TheVariants as written
use Rattle.bundle_command.specs.Steps.Settled.{line_of}
use Rattle.bundle_command.proofs.Lists.{known_item, wrote_all, wrote_lost, wrote_none, wrote_one}
use Rattle.bundle_command.proofs.report_line.write_channels.Goals as goal

pub loop-channel-init : goal.loop-channel-init
loop-channel-init g c = wrote_none c.args.channels.now (bays_view g.I.Source g.O.Sink c.args.bays.now) (sink_view g.K.Sink c.args.report.now)

pub loop-channel-preserved : goal.loop-channel-preserved
loop-channel-preserved g c =
    let whole : c.write_channel.result ≡ written.Whole = search rules in
    let bays = bays_view g.I.Source g.O.Sink c.args.bays.now in
    wrote_one c.args.channels.now bays c.loop-channel.channel-index c.channel-item.result (sink_view g.K.Sink c.args.report.now) (sink_view g.K.Sink c.loop-channel.report) (sink_view g.K.Sink c.write_channel.new.report)
    (known_item c.args.channels.now c.loop-channel.channel-index c.channel-item.result (let test = c.loop-channel-test.true in omega arith) c.channel-item.is) c.loop-channel.invariant
    (subst (λ r. SinkWrites r (sink_view g.K.Sink c.loop-channel.report) (line_of c.channel-item.result bays) (sink_view g.K.Sink c.write_channel.new.report)) whole c.write_channel.ensures)

pub returns-then-eq : goal.returns-then-eq
returns-then-eq g c =
    let lost : c.write_channel.result ≡ written.Lost = search rules in
    let bays = bays_view g.I.Source g.O.Sink c.args.bays.now in
    wrote_lost c.args.channels.now bays c.loop-channel.channel-index c.channel-item.result (sink_view g.K.Sink c.args.report.now) (sink_view g.K.Sink c.loop-channel.report) (sink_view g.K.Sink c.write_channel.new.report)
    (known_item c.args.channels.now c.loop-channel.channel-index c.channel-item.result (let test = c.loop-channel-test.true in omega arith) c.channel-item.is) c.loop-channel.invariant
    (subst (λ r. SinkWrites r (sink_view g.K.Sink c.loop-channel.report) (line_of c.channel-item.result bays) (sink_view g.K.Sink c.write_channel.new.report)) lost c.write_channel.ensures)

pub returns : goal.returns
returns g c =
    wrote_all c.args.channels.now (bays_view g.I.Source g.O.Sink c.args.bays.now) c.loop-channel.channel-index (sink_view g.K.Sink c.args.report.now) (sink_view g.K.Sink c.loop-channel.report)
    (let test = c.loop-channel-test.false in omega arith) (let most = c.loop-channel.auto.channel-index-end in omega arith) c.loop-channel.invariant
