use Rattle.std.proofs.Common.{◌≤◌, ◌-◌, None}
use Rattle.port_base.specs.InPlace.{in_view}
use Rattle.port_base.specs.PortViews.{sink_view}
use Rattle.command_base.specs.Ends.{ReportAfter}
use Rattle.line_commands.proofs.SlotLoop.{SoFar}
use Rattle.line_commands.proofs.slot.write_frames.Given as goal

abbrev pub invariant-loop-left : goal.invariant-loop-left
invariant-loop-left g l = record {
  few : l.left ≤ 131072;
  so_far : SoFar l.slot (131072 - l.left) (in_view g.I.Source l.fn.line) (in_view g.I.Source l.line) (g.K.Sink.got l.fn.report) (g.K.Sink.got l.report);
  report : ReportAfter None (sink_view g.K.Sink l.fn.report) (sink_view g.K.Sink l.report);
}

abbrev pub decreases-loop-left : goal.decreases-loop-left
decreases-loop-left g l = l.left
