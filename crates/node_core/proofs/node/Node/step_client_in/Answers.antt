use Rattle.std.proofs.Common.{◌≡◌, true, refl, sym, subst}
use Rattle.otn_base.specs.declared.kind.PortName.TheVariants as port
use Rattle.port_base.specs.InPlace.{in_view}
use Rattle.node_moments.specs.Steps.NodeMoves.{OnePiece, ClientInMove}
use Rattle.node_moments.specs.NodeView.{NodeView, is_ready}
use Rattle.turn_pieces.specs.Pieces.{is_open}
use Rattle.node_moments.proofs.Later.{ready_open}
use Rattle.node_moments.proofs.StepsKept.{piece_kept}
use Rattle.node_core.proofs.node.Node.step_client_in.Given.{Over}
use Rattle.node_core.proofs.node.Node.step_client_in.Goals as goal

pub count-requires : goal.count-requires
count-requires g c = subst (λ (n : NodeView). is_open n.pieces (port.ClientIn c.args.n) ≡ true) (sym c.self.view_is) (ready_open c.args.self.now (port.ClientIn c.args.n) c.requires)

module _ (g : Over) (c : goal.After-take_client g) where
  abbrev node : NodeView
  node = let v = c.self.inside in record { turns = v.turns; past = v.past; pieces = v.pieces; lines_in = v.lines_in.items; lines_out = v.lines_out.items; links = v.links.items }

  abbrev next : NodeView
  next = let v = c.self.inside in record { turns = v.turns; past = v.past; pieces = c.count.new.self; lines_in = v.lines_in.items; lines_out = v.lines_out.items; links = c.take_client.new.links.items }

  piece : OnePiece (port.ClientIn c.args.n) node next
  piece = record { turns = refl; past = refl; counted = c.count.ensures; lines_in = λ a differ. refl; lines_out = λ b differ. refl }

pub invariant_of-self : goal.invariant_of-self
invariant_of-self g c =
    let is : is_ready (node g c) (port.ClientIn c.args.n) ≡ true = subst (λ (n : NodeView). is_ready n (port.ClientIn c.args.n) ≡ true) (sym c.self.view_is) c.requires in
    piece_kept (port.ClientIn c.args.n) (node g c) (next g c) c.self.invariant is (piece g c) refl refl tt

pub returns-clause-moves : goal.returns-clause-moves
returns-clause-moves g c = subst (λ (n : NodeView). ClientInMove c.args.n n (in_view g.P.Source c.args.place.now) (next g c) (in_view g.P.Source c.take_client.new.place)) c.self.view_is (record { piece = piece g c; takes = c.take_client.ensures })

pub returns-clause-node : goal.returns-clause-node
returns-clause-node g c = invariant_of-self g c
