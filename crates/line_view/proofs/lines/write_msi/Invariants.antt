use Rattle.std.proofs.Common.{take, flat_map}
use Rattle.port_base.specs.PortViews.{SinkWrites, sink_view}
use Rattle.port_base.specs.declared.drain.Written.TheVariants as written
use Rattle.line_view.specs.ViewText.{msi_line}
use Rattle.line_view.proofs.lines.write_msi.Given as goal

-- the lines of the first of them are written
abbrev pub invariant-loop-i : goal.invariant-loop-i
invariant-loop-i g l =
    SinkWrites written.Whole (sink_view g.K.Sink l.fn.report) (flat_map msi_line (take l.i l.msi)) (sink_view g.K.Sink l.report)
