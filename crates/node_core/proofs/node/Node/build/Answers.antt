use Rattle.std.proofs.Common.{[], refl}
use Rattle.node_moments.specs.NodeView.{NodeView}
use Rattle.node_moments.proofs.Building.{IsNewNode, first_moment}
use Rattle.node_moments.proofs.NodesKept.{first_node}
use Rattle.node_moments.proofs.PlanPieces.{all_left}
use Rattle.port_base.specs.Views.{BaysView}
use Rattle.node_core.proofs.node.Node.build.Goals as goal

pub returns-clause-stands : goal.returns-clause-stands
returns-clause-stands c =
    let node : NodeView = record { turns = c.args.plan.now.turns; past = 0; pieces = c.in_ok-pieces.pieces; lines_in = c.in_ok-lines_in.lines_in.items; lines_out = c.in_ok-lines_out.lines_out.items; links = c.in_ok-links.links.items } in
    let new : IsNewNode c.args.plan.now node = record {
      turns = refl;
      past = refl;
      wants = c.in_ok-pieces.ensures.wants;
      fresh = c.in_ok-pieces.ensures.fresh;
      lines_in = c.in_ok-lines_in.ensures;
      lines_out = c.in_ok-lines_out.ensures;
      links = c.in_ok-links.ensures;
    } in
    first_moment c.args.plan.now node c.requires.accepted new

pub invariant_of-result : goal.invariant_of-result
invariant_of-result c =
    let node : NodeView = record { turns = c.args.plan.now.turns; past = 0; pieces = c.in_ok-pieces.pieces; lines_in = c.in_ok-lines_in.lines_in.items; lines_out = c.in_ok-lines_out.lines_out.items; links = c.in_ok-links.links.items } in
    let new : IsNewNode c.args.plan.now node = record {
      turns = refl;
      past = refl;
      wants = c.in_ok-pieces.ensures.wants;
      fresh = c.in_ok-pieces.ensures.fresh;
      lines_in = c.in_ok-lines_in.ensures;
      lines_out = c.in_ok-lines_out.ensures;
      links = c.in_ok-links.ensures;
    } in
    first_node c.args.plan.now node c.requires.accepted new

pub returns-clause-left : goal.returns-clause-left
returns-clause-left c =
    let node : NodeView = record { turns = c.args.plan.now.turns; past = 0; pieces = c.in_ok-pieces.pieces; lines_in = c.in_ok-lines_in.lines_in.items; lines_out = c.in_ok-lines_out.lines_out.items; links = c.in_ok-links.links.items } in
    let none : BaysView = record { line_in = []; line_out = []; client_in = []; client_out = [] } in
    all_left c.args.plan.now node (returns-clause-stands c none).plan_stands refl c.in_ok-pieces.ensures.fresh

pub returns-clause-node : goal.returns-clause-node
returns-clause-node c = invariant_of-result c
