use Rattle.std.proofs.Common.{◌<◌, ◌+◌, length, refl, sym, subst, arith}
use Rattle.std.proofs.lemmas.Option.{slice_get_read}
use Rattle.port_base.specs.Racks.{bays_view, with_line_in}
use Rattle.node_core.specs.Steps.Asking.{LinesAnswer}
use Rattle.node_core.proofs.Asked.{none_asked, asked_next}
use Rattle.node_core.proofs.settle.ask_lines.Goals as goal

pub loop-a-init : goal.loop-a-init
loop-a-init g c = none_asked c.args.pieces.now c.args.lines.now (bays_view g.P.Source g.K.Sink c.args.bays.now)

pub loop-a-preserved : goal.loop-a-preserved
loop-a-preserved g c =
    let a = c.loop-a.a in
    let lines = c.args.lines.now in
    let line = c.index-lines-a.result in
    let was = bays_view g.P.Source g.K.Sink c.args.bays.now in
    let less : a < length lines = (let test = c.loop-a-test.true in let four = c.requires.four in omega (arith, test, four)) in
    let more = asked_next g.P.Source g.K.Sink c.loop-a.bays c.line_in_mut.result.now c.ask_if-has_more.new.place a c.args.pieces.now lines line was c.asks_line-asks.result c.loop-a.more c.ask_if-has_more.result
    (slice_get_read lines (length lines) a line refl less c.index-lines-a.is) c.line_in_mut.ensures.value c.asks_line-asks.ensures c.ask_if-has_more.ensures c.loop-a.invariant in
    subst (λ b. LinesAnswer (a + 1) c.args.pieces.now lines was (bays_view g.P.Source g.K.Sink (with_line_in c.loop-a.bays a c.ask_if-has_more.new.place)) b) (sym c.either-more.ensures) more
