use Rattle.std.proofs.Common.{◌≡◌, ◌++◌, ◌+◌, flat_map, take, drop, arith, rules, subst, sym}
use Rattle.port_base.specs.PortViews.{SinkWrites, sink_view}
use Rattle.port_base.specs.declared.drain.Written.TheVariants as written
use Rattle.line_view.specs.Steps.ViewRuns.{watched_line}
use Rattle.line_view.proofs.Texts.{writes_none, writes_twice, part_of_more, flat_on, flat_all, flat_parts, known_item}
use Rattle.line_view.proofs.lines.write_tributaries.Goals as goal

pub loop-one-init : goal.loop-one-init
loop-one-init g c = writes_none (sink_view g.K.Sink c.args.report.now)

pub loop-one-preserved : goal.loop-one-preserved
loop-one-preserved g c =
    let f = watched_line c.args.t in
    let all = c.args.watched.now in
    let i = c.loop-one.one-index in
    let one = c.one-item.result in
    let first = sink_view g.K.Sink c.args.report.now in
    let was = sink_view g.K.Sink c.loop-one.report in
    let is = sink_view g.K.Sink c.write_tributary.new.report in
    let whole : c.write_tributary.result ≡ written.Whole = search rules in
    let known = known_item all i one (let test = c.loop-one-test.true in omega arith) c.one-item.is in
    subst (λ t. SinkWrites written.Whole first t is) (sym (flat_on f all i one known))
    (writes_twice written.Whole first was is (flat_map f (take i all)) (f one) c.loop-one.invariant (subst (λ r. SinkWrites r was (f one) is) whole c.write_tributary.ensures))

pub returns-then-eq : goal.returns-then-eq
returns-then-eq g c =
    let f = watched_line c.args.t in
    let all = c.args.watched.now in
    let i = c.loop-one.one-index in
    let one = c.one-item.result in
    let first = sink_view g.K.Sink c.args.report.now in
    let was = sink_view g.K.Sink c.loop-one.report in
    let is = sink_view g.K.Sink c.write_tributary.new.report in
    let lost : c.write_tributary.result ≡ written.Lost = search rules in
    let known = known_item all i one (let test = c.loop-one-test.true in omega arith) c.one-item.is in
    subst (λ t. SinkWrites written.Lost first t is) (sym (flat_parts f all i one known))
    (part_of_more first is (flat_map f (take i all) ++ f one) (flat_map f (drop (i + 1) all))
    (writes_twice written.Lost first was is (flat_map f (take i all)) (f one) c.loop-one.invariant (subst (λ r. SinkWrites r was (f one) is) lost c.write_tributary.ensures)))

pub returns : goal.returns
returns g c =
    let f = watched_line c.args.t in
    let all = c.args.watched.now in
    let i = c.loop-one.one-index in
    subst (λ t. SinkWrites written.Whole (sink_view g.K.Sink c.args.report.now) t (sink_view g.K.Sink c.loop-one.report))
    (flat_all f all i (let test = c.loop-one-test.false in omega arith) (let most = c.loop-one.auto.one-index-end in omega arith)) c.loop-one.invariant
