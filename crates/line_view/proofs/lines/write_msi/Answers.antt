use Rattle.std.proofs.Common.{◌≡◌, ◌++◌, ◌+◌, get_or, flat_map, take, drop, arith, rules, subst, sym}
use Rattle.std.proofs.lemmas.Option.{slice_get-get_or}
use Rattle.port_base.specs.PortViews.{SinkWrites, sink_view}
use Rattle.port_base.specs.declared.drain.Written.TheVariants as written
use Rattle.line_view.specs.ViewText.{msi_line}
use Rattle.line_view.proofs.Texts.{writes_none, writes_twice, part_of_more, flat_on, flat_all, flat_parts}
use Rattle.line_view.proofs.lines.write_msi.Goals as goal

pub loop-i-init : goal.loop-i-init
loop-i-init g c = writes_none (sink_view g.K.Sink c.args.report.now)

pub loop-i-preserved : goal.loop-i-preserved
loop-i-preserved g c =
    let all = c.args.msi.now in
    let i = c.loop-i.i in
    let one = get_or all i (0, 0) in
    let first = sink_view g.K.Sink c.args.report.now in
    let was = sink_view g.K.Sink c.loop-i.report in
    let is = sink_view g.K.Sink c.write_msi_line.new.report in
    let whole : c.write_msi_line.result ≡ written.Whole = search rules in
    let known = slice_get-get_or all i (0, 0) (omega (arith, c.loop-i-test.true)) in
    subst (λ t. SinkWrites written.Whole first t is) (sym (flat_on msi_line all i one known))
    (writes_twice written.Whole first was is (flat_map msi_line (take i all)) (msi_line one) c.loop-i.invariant (subst (λ r. SinkWrites r was (msi_line one) is) whole c.write_msi_line.ensures))

pub returns-then-eq : goal.returns-then-eq
returns-then-eq g c =
    let all = c.args.msi.now in
    let i = c.loop-i.i in
    let one = get_or all i (0, 0) in
    let first = sink_view g.K.Sink c.args.report.now in
    let was = sink_view g.K.Sink c.loop-i.report in
    let is = sink_view g.K.Sink c.write_msi_line.new.report in
    let lost : c.write_msi_line.result ≡ written.Lost = search rules in
    let known = slice_get-get_or all i (0, 0) (omega (arith, c.loop-i-test.true)) in
    subst (λ t. SinkWrites written.Lost first t is) (sym (flat_parts msi_line all i one known))
    (part_of_more first is (flat_map msi_line (take i all) ++ msi_line one) (flat_map msi_line (drop (i + 1) all))
    (writes_twice written.Lost first was is (flat_map msi_line (take i all)) (msi_line one) c.loop-i.invariant (subst (λ r. SinkWrites r was (msi_line one) is) lost c.write_msi_line.ensures)))

pub returns : goal.returns
returns g c =
    let all = c.args.msi.now in
    let i = c.loop-i.i in
    subst (λ t. SinkWrites written.Whole (sink_view g.K.Sink c.args.report.now) t (sink_view g.K.Sink c.loop-i.report))
    (flat_all msi_line all i (omega (arith, c.loop-i-test.false)) (omega (arith, c.loop-i.auto.i-end))) c.loop-i.invariant
