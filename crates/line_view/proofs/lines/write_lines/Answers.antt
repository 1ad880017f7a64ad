use Rattle.std.proofs.Common.{◌≡◌, ◌+◌, ◌++◌, rules, subst, flat_map}
use Rattle.port_base.specs.PortViews.{SinkWrites, sink_view}
use Rattle.port_base.specs.declared.drain.Written.TheVariants as written
use Rattle.line_view.specs.Steps.ViewRuns.{lines_of, watched_line}
use Rattle.line_view.specs.ViewText.{turn_line, msi_line}
use Rattle.line_view.proofs.Texts.{writes_twice, part_of_more}
use Rattle.line_view.proofs.lines.write_lines.Goals as goal

pub returns-then-eq : goal.returns-then-eq
unfolding lines_of
returns-then-eq g c =
    let first = sink_view g.K.Sink c.args.report.now in
    let is = sink_view g.K.Sink c.write_turn_line.new.report in
    let line = turn_line (c.args.t + 1) c.args.seen in
    let lost : c.write_turn_line.result ≡ written.Lost = search rules in
    part_of_more first is line (flat_map msi_line c.args.msi.now ++ flat_map (watched_line c.args.t) c.args.watched.now) (subst (λ r. SinkWrites r first line is) lost c.write_turn_line.ensures)

pub returns : goal.returns
unfolding lines_of
returns g c =
    let first = sink_view g.K.Sink c.args.report.now in
    let was = sink_view g.K.Sink c.write_turn_line.new.report in
    let line = turn_line (c.args.t + 1) c.args.seen in
    let whole : c.write_turn_line.result ≡ written.Whole = search rules in
    writes_twice c.write_others.result first was (sink_view g.K.Sink c.write_others.new.report) line (flat_map msi_line c.args.msi.now ++ flat_map (watched_line c.args.t) c.args.watched.now)
    (subst (λ r. SinkWrites r first line was) whole c.write_turn_line.ensures) c.write_others.ensures
