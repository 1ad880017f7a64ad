use Rattle.std.proofs.Common.{◌≡◌, rules, subst, flat_map}
use Rattle.port_base.specs.PortViews.{SinkWrites, sink_view}
use Rattle.port_base.specs.declared.drain.Written.TheVariants as written
use Rattle.line_view.specs.Steps.ViewRuns.{watched_line}
use Rattle.line_view.specs.ViewText.{msi_line}
use Rattle.line_view.proofs.Texts.{writes_twice, part_of_more}
use Rattle.line_view.proofs.lines.write_others.Goals as goal

pub returns-then-eq : goal.returns-then-eq
returns-then-eq g c =
    let first = sink_view g.K.Sink c.args.report.now in
    let is = sink_view g.K.Sink c.write_msi.new.report in
    let lost : c.write_msi.result ≡ written.Lost = search rules in
    part_of_more first is (flat_map msi_line c.args.msi.now) (flat_map (watched_line c.args.t) c.args.watched.now)
    (subst (λ r. SinkWrites r first (flat_map msi_line c.args.msi.now) is) lost c.write_msi.ensures)

pub returns : goal.returns
returns g c =
    let first = sink_view g.K.Sink c.args.report.now in
    let was = sink_view g.K.Sink c.write_msi.new.report in
    let whole : c.write_msi.result ≡ written.Whole = search rules in
    writes_twice c.write_tributaries.result first was (sink_view g.K.Sink c.write_tributaries.new.report) (flat_map msi_line c.args.msi.now) (flat_map (watched_line c.args.t) c.args.watched.now)
    (subst (λ r. SinkWrites r first (flat_map msi_line c.args.msi.now) was) whole c.write_msi.ensures) c.write_tributaries.ensures
