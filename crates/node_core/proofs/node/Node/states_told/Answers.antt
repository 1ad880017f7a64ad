use Rattle.std.proofs.Common.{◌<◌, rules, arith, ◌∙◌, None, length, sym, subst}
use Rattle.std.proofs.lemmas.List.{length-set}
use Rattle.node_core.specs.Settling.{IsLastState}
use Rattle.node_moments.specs.NodeView.{NodeView}
use Rattle.node_core.proofs.Told.{told_more}
use Rattle.node_core.proofs.node.Node.states_told.Goals as goal

pub loop-i-preserved : goal.loop-i-preserved
loop-i-preserved c = record {
  size = length-set c.loop-i.told c.loop-i.i c.connection_state.result ∙ c.loop-i.invariant.size;
  told = told_more (λ m state. IsLastState c.args.self.now m state) c.loop-i.told c.loop-i.i c.connection_state.result None (search rules) c.loop-i.invariant.told c.connection_state.ensures.state;
}

pub returns : goal.returns
returns c = λ i within few.
    let inside : i < length c.self.inside.links.items = subst (λ (node : NodeView). i < length node.links) (sym c.self.view_is) within in
    let test = c.loop-i-test.false in
    c.loop-i.invariant.told i (omega (arith, inside, few, c.len.ensures, c.min-count.ensures, c.self.inside.links.ok, test))
