use Rattle.std.proofs.Common.{◌∙◌, Some, sym, subst, arith}
use Rattle.node_links.specs.Steps.LinkMoves.{FirstOf}
use Rattle.node_links.specs.Links.{takes_part}
use Rattle.node_links.proofs.LinkFinds.{found_here, none_next, none_at_all}
use Rattle.node_links.proofs.clients.first_at.Goals as goal

pub loop-link-preserved : goal.loop-link-preserved
loop-link-preserved c = record {
  at = (let at = c.loop-link.invariant.at in omega arith);
  none = none_next (takes_part c.args.past c.args.name) c.args.links.now c.loop-link.link-index c.link-item.result (let test = c.loop-link-test.true in omega arith) c.link-item.is
      (sym c.takes_part.ensures ∙ c.if-takes_part.false) c.loop-link.invariant.none;
}

pub returns-then-takes_part : goal.returns-then-takes_part
returns-then-takes_part c = subst (λ i. FirstOf (takes_part c.args.past c.args.name) c.args.links.now (Some i)) (sym c.loop-link.invariant.at)
    (found_here (takes_part c.args.past c.args.name) c.args.links.now c.loop-link.link-index c.link-item.result (let test = c.loop-link-test.true in omega arith) c.link-item.is (sym c.takes_part.ensures ∙ c.if-takes_part.true))

pub returns : goal.returns
returns c = none_at_all (takes_part c.args.past c.args.name) c.args.links.now c.loop-link.link-index (let test = c.loop-link-test.false in omega arith) c.loop-link.invariant.none
