use Rattle.std.proofs.Common.{◌∙◌, ap, subst}
use Rattle.port_base.specs.InPlace.{in_view}
use Rattle.port_base.specs.PortViews.{sink_view}
use Rattle.line_side.specs.LineStands.{LineView}
use Rattle.device_model.specs.LineAsked.{is_seen}
use Rattle.tributary_line.specs.Walking.{WalkEnds}
use Rattle.line_commands.proofs.PullLoop.{seen_is, pull_begins, pull_ends, pull_stops, report_kept, report_lost, never_written}
use Rattle.line_commands.proofs.pull.write_turns.Goals as goal

pub returns-clause-run : goal.returns-clause-run
returns-clause-run g c =
    let first = in_view g.I.Source c.args.line.now in
    let was = sink_view g.K.Sink c.args.report.now in
    let h = c.in-Some.ensures.went first was (pull_begins c.args.pulling.now first was c.requires.new c.requires.ready.between.pieces) in
    let line = c.line-input.ensures in
    pull_ends c.end_walk.result c.args.pulling.now c.walk.new.walker was (sink_view g.K.Sink c.walk.new.report) first (in_view g.I.Source c.walk.new.place) (in_view g.I.Source c.end_walk.new.place)
    c.in-Some.field-0 h
    (subst (λ seen. WalkEnds seen c.walk.new.walker.tap.line.reader.rest (in_view g.I.Source c.walk.new.place) (in_view g.I.Source c.end_walk.new.place) c.end_walk.result)
    (seen_is c.end_seen.result c.line-input.result.now.reader.ending c.end_seen.ensures ∙ ap (λ (l : LineView). is_seen l.reader.ending) line)
    (subst (λ rest. WalkEnds c.end_seen.result rest (in_view g.I.Source c.walk.new.place) (in_view g.I.Source c.end_walk.new.place) c.end_walk.result)
    (c.rest.ensures.rest ∙ ap (λ (l : LineView). l.reader.rest) line) c.end_walk.ensures.ends))
    c.end_walk.ensures.written.0

pub returns-clause-report : goal.returns-clause-report
returns-clause-report g c =
    let first = in_view g.I.Source c.args.line.now in
    let was = sink_view g.K.Sink c.args.report.now in
    let is = sink_view g.K.Sink c.walk.new.report in
    let h = c.in-Some.ensures.went first was (pull_begins c.args.pulling.now first was c.requires.new c.requires.ready.between.pieces) in
    never_written c.end_walk.result was is c.end_walk.ensures.written.0 (report_kept c.args.pulling.now c.walk.new.walker was is first (in_view g.I.Source c.walk.new.place) c.in-Some.field-0 h)

pub returns-in_default-clause-run : goal.returns-in_default-clause-run
returns-in_default-clause-run g c =
    let first = in_view g.I.Source c.args.line.now in
    let was = sink_view g.K.Sink c.args.report.now in
    let h = c.in_default.ensures.went first was (pull_begins c.args.pulling.now first was c.requires.new c.requires.ready.between.pieces) in
    pull_stops c.args.pulling.now c.walk.new.walker was (sink_view g.K.Sink c.walk.new.report) first (in_view g.I.Source c.walk.new.place) h

pub returns-in_default-clause-report : goal.returns-in_default-clause-report
returns-in_default-clause-report g c =
    let first = in_view g.I.Source c.args.line.now in
    let was = sink_view g.K.Sink c.args.report.now in
    let h = c.in_default.ensures.went first was (pull_begins c.args.pulling.now first was c.requires.new c.requires.ready.between.pieces) in
    report_lost c.args.pulling.now c.walk.new.walker was (sink_view g.K.Sink c.walk.new.report) first (in_view g.I.Source c.walk.new.place) h
