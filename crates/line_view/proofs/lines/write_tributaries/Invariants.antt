use Rattle.std.proofs.Common.{take, flat_map}
use Rattle.port_base.specs.PortViews.{SinkWrites, sink_view}
use Rattle.port_base.specs.declared.drain.Written.TheVariants as written
use Rattle.line_view.specs.Steps.ViewRuns.{watched_line}
use Rattle.line_view.proofs.lines.write_tributaries.Given as goal

-- the lines of the first tributaries are written
abbrev pub invariant-loop-one : goal.invariant-loop-one
invariant-loop-one g l =
    SinkWrites written.Whole (sink_view g.K.Sink l.fn.report) (flat_map (watched_line l.t) (take l.one-index l.watched)) (sink_view g.K.Sink l.report)
