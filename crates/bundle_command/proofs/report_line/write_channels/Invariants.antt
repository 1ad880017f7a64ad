use Rattle.port_base.specs.PortViews.{sink_view}
use Rattle.port_base.specs.Racks.{bays_view}
use Rattle.bundle_command.proofs.Lists.{Wrote}
use Rattle.bundle_command.proofs.report_line.write_channels.Given as goal

abbrev pub invariant-loop-channel : goal.invariant-loop-channel
invariant-loop-channel g l = Wrote l.channels (bays_view g.I.Source g.O.Sink l.bays) l.channel-index (sink_view g.K.Sink l.fn.report) (sink_view g.K.Sink l.report)
