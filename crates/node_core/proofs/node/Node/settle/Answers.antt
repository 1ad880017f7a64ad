use Rattle.std.proofs.Common.{◌≡◌, ◌≤◌, ◌||◌, sym, subst}
use Rattle.port_base.specs.Racks.{bays_view}
use Rattle.device_model.specs.declared.outcome.Outcome.{Outcome}
use Rattle.node_core.specs.Steps.Asking.{outcome_by}
use Rattle.node_moments.specs.NodeView.{NodeView}
use Rattle.node_core.specs.Settling.{Settled}
use Rattle.node_moments.specs.Stands.{StandsAt}
use Rattle.node_core.proofs.Settled.{settled_is}
use Rattle.node_core.proofs.node.Node.settle.Goals as goal

pub returns-clause-settled : goal.returns-clause-settled
returns-clause-settled g c = λ plan first read stands.
    let v = c.self.inside in
    let node : NodeView = record { turns = v.turns; past = v.past; pieces = v.pieces; lines_in = v.lines_in.items; lines_out = v.lines_out.items; links = v.links.items } in
    let same : node ≡ c.args.self.now = c.self.view_is in
    let old = bays_view g.P.Source g.K.Sink c.args.bays.now in
    let new = bays_view g.P.Source g.K.Sink c.ask_lines-more.new.bays in
    let finished : node.turns ≤ node.past = subst (λ (n : NodeView). n.turns ≤ n.past) (sym same) c.requires.finished in
    let here : Settled plan first read node new (outcome_by c.has_dead-dead.result (c.ask_lines-more.result || c.has_open-unspent.result)) = settled_is plan first old new read node c.has_dead-dead.result c.ask_lines-more.result c.has_open-unspent.result c.self.invariant finished (subst (λ (n : NodeView). StandsAt plan first read n old) (sym same) stands)
    (rw (← c.deref.ensures.value) c.ask_lines-more.ensures) c.has_dead-dead.ensures (rw (← c.deref-2.ensures.value) c.has_open-unspent.ensures) in
    subst (λ (o : Outcome). Settled plan first read c.args.self.now new o) (sym c.outcome_by.ensures) (subst (λ (n : NodeView). Settled plan first read n new (outcome_by c.has_dead-dead.result (c.ask_lines-more.result || c.has_open-unspent.result))) same here)
