use Rattle.std.proofs.Common.{◌≡◌, rules, subst}
use Rattle.port_base.specs.InPlace.{in_view}
use Rattle.port_base.specs.PortViews.{SinkWrites, sink_view}
use Rattle.port_base.specs.declared.drain.Written.TheVariants as written
use Rattle.tributary_line.specs.Walking.{WalkEnds}
use Rattle.line_view.specs.ViewText.{head_line, end_line}
use Rattle.line_view.specs.Steps.ViewRuns.{form_in, shows_in}
use Rattle.line_view.proofs.Runs.{end_is, end_lost, head_lost, view_ends, view_starts, view_stops}
use Rattle.line_view.proofs.viewing.write_text.Goals as goal

pub returns-then-eq-clause-run : goal.returns-then-eq-clause-run
returns-then-eq-clause-run g c =
    let viewing = c.args.viewing.now in
    let was = sink_view g.K.Sink c.args.report.now in
    let head = sink_view g.K.Sink c.write_head.new.report in
    let lost : c.write_head.result ≡ written.Lost = search rules in
    head_lost (form_in viewing) (shows_in viewing) (in_view g.I.Source c.args.place.now) was head
    (subst (λ r. SinkWrites r was (head_line viewing.kind viewing.scrambled) head) lost c.write_head.ensures)

pub returns-in_default-clause-run : goal.returns-in_default-clause-run
returns-in_default-clause-run g c =
    let viewing = c.args.viewing.now in
    let first = in_view g.I.Source c.args.place.now in
    let was = sink_view g.K.Sink c.args.report.now in
    let head = sink_view g.K.Sink c.write_head.new.report in
    let whole : c.write_head.result ≡ written.Whole = search rules in
    let h = c.in_default.ensures.went first was (view_starts viewing first was head c.requires.new c.requires.ready.between
    (subst (λ r. SinkWrites r was (head_line viewing.kind viewing.scrambled) head) whole c.write_head.ensures)) in
    view_stops viewing c.walk.new.walker was (sink_view g.K.Sink c.walk.new.report) first (in_view g.I.Source c.walk.new.place) h

pub returns-then-eq-2-clause-run : goal.returns-then-eq-2-clause-run
returns-then-eq-2-clause-run g c =
    let viewing = c.args.viewing.now in
    let first = in_view g.I.Source c.args.place.now in
    let was = sink_view g.K.Sink c.args.report.now in
    let head = sink_view g.K.Sink c.write_head.new.report in
    let mid = sink_view g.K.Sink c.walk.new.report in
    let is = sink_view g.K.Sink c.write_end.new.report in
    let whole : c.write_head.result ≡ written.Whole = search rules in
    let lost : c.write_end.result ≡ written.Lost = search rules in
    let h = c.in-Some.ensures.went first was (view_starts viewing first was head c.requires.new c.requires.ready.between
    (subst (λ r. SinkWrites r was (head_line viewing.kind viewing.scrambled) head) whole c.write_head.ensures)) in
    end_lost viewing c.walk.new.walker was mid is first (in_view g.I.Source c.walk.new.place) c.in-Some.turns h
    (subst (λ r. SinkWrites r mid (end_line c.in-Some.turns c.walk.new.walker.line.reader.rest) is) lost
    (subst (λ n. SinkWrites c.write_end.result mid (end_line c.in-Some.turns n) is) c.rest.ensures.rest c.write_end.ensures))

pub returns-clause-run : goal.returns-clause-run
returns-clause-run g c =
    let viewing = c.args.viewing.now in
    let first = in_view g.I.Source c.args.place.now in
    let place = in_view g.I.Source c.walk.new.place in
    let now = in_view g.I.Source c.end_walk.new.place in
    let was = sink_view g.K.Sink c.args.report.now in
    let head = sink_view g.K.Sink c.write_head.new.report in
    let mid = sink_view g.K.Sink c.walk.new.report in
    let is = sink_view g.K.Sink c.write_end.new.report in
    let whole : c.write_head.result ≡ written.Whole = search rules in
    let all : c.write_end.result ≡ written.Whole = search rules in
    let h = c.in-Some.ensures.went first was (view_starts viewing first was head c.requires.new c.requires.ready.between
    (subst (λ r. SinkWrites r was (head_line viewing.kind viewing.scrambled) head) whole c.write_head.ensures)) in
    view_ends c.end_walk.result viewing c.walk.new.walker was mid is first place now c.in-Some.turns h
    (subst (λ r. SinkWrites r mid (end_line c.in-Some.turns c.walk.new.walker.line.reader.rest) is) all
    (subst (λ n. SinkWrites c.write_end.result mid (end_line c.in-Some.turns n) is) c.rest.ensures.rest c.write_end.ensures))
    (subst (λ seen. WalkEnds seen c.walk.new.walker.line.reader.rest place now c.end_walk.result) (end_is c.end_seen.result c.walk.new.walker.line.reader.ending c.end_seen.ensures)
    (subst (λ n. WalkEnds c.end_seen.result n place now c.end_walk.result) c.rest-2.ensures.rest c.end_walk.ensures.ends))
    c.end_walk.ensures.written.0
