use Rattle.std.proofs.Common.{◌≡◌, true, false, sym, ◌∙◌, subst}
use Rattle.port_base.specs.Racks.{bays_view}
use Rattle.node_core.specs.Steps.Asking.{is_cut}
use Rattle.node_core.proofs.Asked.{none_cut, some_cut, cut_next}
use Rattle.turn_pieces.specs.Ports.{port_at}
use Rattle.node_core.proofs.settle.has_dead.Goals as goal

pub loop-i-preserved : goal.loop-i-preserved
loop-i-preserved g c =
    let bays = bays_view g.P.Source g.K.Sink c.args.bays.now in
    cut_next c.args.pieces.now bays c.loop-i.i (subst (λ name. is_cut c.args.pieces.now bays name ≡ false) c.port_at.ensures (sym c.is_cut.ensures ∙ c.if-is_cut.false)) c.loop-i.invariant

pub returns-then-is_cut : goal.returns-then-is_cut
returns-then-is_cut g c =
    let bays = bays_view g.P.Source g.K.Sink c.args.bays.now in
    some_cut c.args.pieces.now bays (port_at c.loop-i.i) (subst (λ name. is_cut c.args.pieces.now bays name ≡ true) c.port_at.ensures (sym c.is_cut.ensures ∙ c.if-is_cut.true))

pub returns : goal.returns
returns g c = none_cut c.args.pieces.now (bays_view g.P.Source g.K.Sink c.args.bays.now) c.loop-i.i c.loop-i-test.false c.loop-i.invariant
