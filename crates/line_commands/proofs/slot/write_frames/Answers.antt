use Rattle.std.proofs.Common.{◌≡◌, ◌<◌, ◌+◌, ◌-◌, ◌≤◌, Some, None, subst, arith, lit≤}
use Rattle.port_base.specs.InPlace.{in_view}
use Rattle.port_base.specs.PortViews.{sink_view}
use Rattle.command_base.proofs.Reports.{report_same, report_more}
use Rattle.line_commands.proofs.SlotLoop.{SoFar, so_far_none, ends_after, never_fault}
use Rattle.line_commands.proofs.SlotFrames.{so_far_frames, ends_with_step}
use Rattle.line_commands.proofs.slot.write_frames.Goals as goal

pub loop-left-init : goal.loop-left-init
loop-left-init g c = record {
  few = lit≤ tt;
  so_far = so_far_none c.args.slot (in_view g.I.Source c.args.line.now) (g.K.Sink.got c.args.report.now);
  report = report_same (sink_view g.K.Sink c.args.report.now);
}

pub returns-in-Stopped-clause-run : goal.returns-in-Stopped-clause-run
returns-in-Stopped-clause-run g c =
    let some : 0 < c.loop-left.left = omega arith in
    let few : 131072 - c.loop-left.left + c.loop-left.left ≤ 131072 = omega (arith, c.loop-left.invariant.few) in
    ends_with_step c.in-Stopped.ended c.args.slot (131072 - c.loop-left.left) c.loop-left.left (in_view g.I.Source c.args.line.now) (in_view g.I.Source c.loop-left.line)
    (in_view g.I.Source c.write_some.new.line) (g.K.Sink.got c.args.report.now) (g.K.Sink.got c.loop-left.report) (g.K.Sink.got c.write_some.new.report)
    c.requires.alive few some c.loop-left.invariant.so_far c.in-Stopped.ensures.step

pub returns-in-Stopped-clause-report : goal.returns-in-Stopped-clause-report
returns-in-Stopped-clause-report g c =
    report_more (Some c.in-Stopped.ended) (sink_view g.K.Sink c.args.report.now) (sink_view g.K.Sink c.loop-left.report) (sink_view g.K.Sink c.write_some.new.report)
    c.loop-left.invariant.report c.in-Stopped.ensures.report

pub loop-left-preserved : goal.loop-left-preserved
loop-left-preserved g c =
    let n = c.in-Frames.frames in
    let left = c.loop-left.left in
    let first = in_view g.I.Source c.args.line.now in
    let now = in_view g.I.Source c.write_some.new.line in
    let old = g.K.Sink.got c.args.report.now in
    let new = g.K.Sink.got c.write_some.new.report in
    let step = c.in-Frames.ensures in
    let few : left ≤ 131072 = c.loop-left.invariant.few in
    let within : n ≤ left = step.step.ends.1 in
    let count : 131072 - left + n ≡ 131072 - (left - n) = omega arith in
    record {
      few = omega arith;
      so_far = subst (λ i. SoFar c.args.slot i first now old new) count
          (so_far_frames c.args.slot (131072 - left) left n first (in_view g.I.Source c.loop-left.line) now old (g.K.Sink.got c.loop-left.report) new c.loop-left.invariant.so_far step.step);
      report = report_more None (sink_view g.K.Sink c.args.report.now) (sink_view g.K.Sink c.loop-left.report) (sink_view g.K.Sink c.write_some.new.report) c.loop-left.invariant.report step.report;
    }

pub returns-clause-run : goal.returns-clause-run
returns-clause-run g c =
    let last : 131072 - c.loop-left.left ≡ 131072 = omega (arith, c.loop-left-test.false) in
    let first = in_view g.I.Source c.args.line.now in
    let now = in_view g.I.Source c.loop-left.line in
    let so_far = subst (λ i. SoFar c.args.slot i first now (g.K.Sink.got c.args.report.now) (g.K.Sink.got c.loop-left.report)) last c.loop-left.invariant.so_far in
    ends_after c.ask_for_more.result c.args.slot first now (in_view g.I.Source c.ask_for_more.new.line)
    (g.K.Sink.got c.args.report.now) (g.K.Sink.got c.loop-left.report) c.requires.alive so_far c.ask_for_more.ensures

pub returns-clause-report : goal.returns-clause-report
returns-clause-report g c =
    never_fault c.ask_for_more.result (in_view g.I.Source c.loop-left.line) (in_view g.I.Source c.ask_for_more.new.line) (sink_view g.K.Sink c.args.report.now) (sink_view g.K.Sink c.loop-left.report)
    c.ask_for_more.ensures c.loop-left.invariant.report
