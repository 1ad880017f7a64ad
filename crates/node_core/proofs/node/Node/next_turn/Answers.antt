use Rattle.std.proofs.Common.{◌≡◌, ◌<◌, ◌+◌, length, refl, sym, ap, subst, arith, ◌∙◌}
use Rattle.node_moments.specs.NodeMoves.{FenceMove}
use Rattle.node_moments.specs.NodeView.{NodeView, is_ready}
use Rattle.node_moments.proofs.NodesKept.{fence_node}
use Rattle.node_moments.proofs.TurnMoves.{line_spent, fence_move}
use Rattle.node_core.proofs.node.Node.next_turn.Goals as goal

pub end_lines-wholes-requires-clause-done : goal.end_lines-wholes-requires-clause-done
end_lines-wholes-requires-clause-done c =
    let v = c.self.inside in
    let node : NodeView = record { turns = v.turns; past = v.past; pieces = v.pieces; lines_in = v.lines_in.items; lines_out = v.lines_out.items; links = v.links.items } in
    let same : node ≡ c.args.self.now = c.self.view_is in
    let going : node.past < node.turns = subst (λ (n : NodeView). n.past < n.turns) (sym same) c.requires.going in
    λ a line has some. line_spent node a line c.self.invariant going (λ name. ap (λ (n : NodeView). is_ready n name) same ∙ c.requires.none name) has some

pub invariant_of-self : goal.invariant_of-self
invariant_of-self c =
    let v = c.self.inside in
    let node : NodeView = record { turns = v.turns; past = v.past; pieces = v.pieces; lines_in = v.lines_in.items; lines_out = v.lines_out.items; links = v.links.items } in
    let same : node ≡ c.args.self.now = c.self.view_is in
    let going : node.past < node.turns = subst (λ (n : NodeView). n.past < n.turns) (sym same) c.requires.going in
    let next : NodeView = record { turns = v.turns; past = v.past + 1; pieces = c.clear.new.self; lines_in = c.end_lines-wholes.new.lines.items; lines_out = v.lines_out.items; links = c.start_all.new.links.items } in
    let four : length c.end_lines-wholes.new.lines.items ≡ 4 = omega (arith, c.end_lines-wholes.ensures.four, c.end_lines-wholes.new.lines.ok) in
    let move : FenceMove node next = fence_move node next c.end_lines-wholes.result c.fence_all.new.links.items c.self.invariant refl refl c.clear.ensures.wants c.clear.ensures.fresh c.end_lines-wholes.ensures.ends four refl
    c.fence_all.ensures c.start_all.ensures in
    fence_node node next going move c.self.invariant

pub returns-clause-ends : goal.returns-clause-ends
returns-clause-ends c =
    let v = c.self.inside in
    let node : NodeView = record { turns = v.turns; past = v.past; pieces = v.pieces; lines_in = v.lines_in.items; lines_out = v.lines_out.items; links = v.links.items } in
    let same : node ≡ c.args.self.now = c.self.view_is in
    let next : NodeView = record { turns = v.turns; past = v.past + 1; pieces = c.clear.new.self; lines_in = c.end_lines-wholes.new.lines.items; lines_out = v.lines_out.items; links = c.start_all.new.links.items } in
    let four : length c.end_lines-wholes.new.lines.items ≡ 4 = omega (arith, c.end_lines-wholes.ensures.four, c.end_lines-wholes.new.lines.ok) in
    let move : FenceMove node next = fence_move node next c.end_lines-wholes.result c.fence_all.new.links.items c.self.invariant refl refl c.clear.ensures.wants c.clear.ensures.fresh c.end_lines-wholes.ensures.ends four refl
    c.fence_all.ensures c.start_all.ensures in
    subst (λ (n : NodeView). FenceMove n next) same move

pub returns-clause-node : goal.returns-clause-node
returns-clause-node c = invariant_of-self c
