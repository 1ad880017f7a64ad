use Rattle.std.proofs.Common.{◌≡◌, ◌<◌, true, subst, sym}
use Rattle.node_moments.specs.NodeView.{NodeView, is_ready, ready_number}
use Rattle.turn_pieces.specs.Pieces.{IsNth}
use Rattle.node_moments.proofs.StepsKept.{count_open, open_ready}
use Rattle.node_core.proofs.node.Node.nth_ready.Goals as goal

pub nth_open-requires : goal.nth_open-requires
nth_open-requires c =
    let v = c.self.inside in
    let node : NodeView = record { turns = v.turns; past = v.past; pieces = v.pieces; lines_in = v.lines_in.items; lines_out = v.lines_out.items; links = v.links.items } in
    let same : node ≡ c.args.self.now = c.self.view_is in
    count_open node c.args.i (subst (λ (n : NodeView). c.args.i < ready_number n) (sym same) c.requires)

pub returns-clause-ready : goal.returns-clause-ready
returns-clause-ready c =
    let v = c.self.inside in
    let node : NodeView = record { turns = v.turns; past = v.past; pieces = v.pieces; lines_in = v.lines_in.items; lines_out = v.lines_out.items; links = v.links.items } in
    let same : node ≡ c.args.self.now = c.self.view_is in
    let ready = open_ready node c.args.i c.nth_open.result (subst (λ (n : NodeView). c.args.i < ready_number n) (sym same) c.requires) c.nth_open.ensures.ready in
    subst (λ (n : NodeView). is_ready n c.nth_open.result ≡ true) same ready

pub returns-clause-nth : goal.returns-clause-nth
returns-clause-nth c =
    let v = c.self.inside in
    let node : NodeView = record { turns = v.turns; past = v.past; pieces = v.pieces; lines_in = v.lines_in.items; lines_out = v.lines_out.items; links = v.links.items } in
    let same : node ≡ c.args.self.now = c.self.view_is in
    subst (λ (n : NodeView). IsNth n.pieces c.args.i c.nth_open.result) same c.nth_open.ensures
