use Rattle.std.proofs.Common.{◌≡◌, ◌<◌, true, Some, set, length, slice_get, refl, sym, ap, subst, arith}
use Rattle.std.proofs.lemmas.Option.{slice_get_read}
use Rattle.otn_base.specs.declared.kind.PortName.TheVariants as port
use Rattle.port_base.specs.InPlace.{in_view}
use Rattle.node_moments.specs.Steps.NodeMoves.{LineInMove}
use Rattle.node_moments.specs.NodeView.{NodeView, is_ready}
use Rattle.turn_pieces.specs.Pieces.{is_open}
use Rattle.node_moments.proofs.Later.{ready_open}
use Rattle.node_moments.proofs.Parts.{ready}
use Rattle.turn_pieces.proofs.PortNumbers.{line_in_index}
use Rattle.node_moments.proofs.StepsKept.{set_here, set_there, set_count, line_unspent, line_in_kept}
use Rattle.node_core.proofs.node.Node.step_line_in.Given.{Over}
use Rattle.node_core.proofs.node.Node.step_line_in.Goals as goal

pub count-requires : goal.count-requires
count-requires g c = subst (λ (n : NodeView). is_open n.pieces (port.LineIn c.args.a) ≡ true) (sym c.self.view_is) (ready_open c.args.self.now (port.LineIn c.args.a) c.requires)

pub index_mut-requires : goal.index_mut-requires
index_mut-requires g c =
    let less = (line_in_index c.args.a (ready c.args.self.now (port.LineIn c.args.a) c.requires).within).0 in
    omega (arith, less, c.self.invariant.lines_in, c.self.inside.lines_in.ok)

pub read_line-requires : goal.read_line-requires
read_line-requires g c =
    let v = c.self.inside in
    let node : NodeView = record { turns = v.turns; past = v.past; pieces = v.pieces; lines_in = v.lines_in.items; lines_out = v.lines_out.items; links = v.links.items } in
    let is : is_ready node (port.LineIn c.args.a) ≡ true = subst (λ (n : NodeView). is_ready n (port.LineIn c.args.a) ≡ true) (sym c.self.view_is) c.requires in
    let less = (line_in_index c.args.a (ready node (port.LineIn c.args.a) is).within).0 in
    let within : c.args.a < length node.lines_in = omega (arith, less, c.self.invariant.lines_in) in
    let had : slice_get node.lines_in c.args.a ≡ Some c.index_mut.result.now = slice_get_read node.lines_in (length node.lines_in) c.args.a c.index_mut.result.now refl within c.index_mut.ensures.value in
    record { pieces = line_unspent c.args.a node c.index_mut.result.now c.self.invariant is had }

module _ (g : Over) (c : goal.After-self-1 g) where
  abbrev node : NodeView
  node = let v = c.self.inside in record { turns = v.turns; past = v.past; pieces = v.pieces; lines_in = v.lines_in.items; lines_out = v.lines_out.items; links = v.links.items }

  abbrev next : NodeView
  next = let v = c.self.inside in record { turns = v.turns; past = v.past; pieces = c.count.new.self; lines_in = set v.lines_in.items c.args.a c.read_line.new.line; lines_out = v.lines_out.items; links = c.read_line.new.links.items }

  is_on : is_ready node (port.LineIn c.args.a) ≡ true
  is_on = subst (λ (n : NodeView). is_ready n (port.LineIn c.args.a) ≡ true) (sym c.self.view_is) c.requires

  had : slice_get node.lines_in c.args.a ≡ Some c.index_mut.result.now
  had =
      let less = (line_in_index c.args.a (ready node (port.LineIn c.args.a) is_on).within).0 in
      let within : c.args.a < length node.lines_in = omega (arith, less, c.self.invariant.lines_in) in
      slice_get_read node.lines_in (length node.lines_in) c.args.a c.index_mut.result.now refl within c.index_mut.ensures.value

  move : LineInMove c.args.a node (in_view g.P.Source c.args.place.now) next (in_view g.P.Source c.read_line.new.place)
  move = record {
    piece = record { turns = refl; past = refl; counted = c.count.ensures; lines_in = λ m differ. set_there node.lines_in c.args.a m c.read_line.new.line (λ e. differ (ap port.LineIn e)); lines_out = λ b differ. refl };
    line = c.index_mut.result.now;
    next = c.read_line.new.line;
    had = had;
    has = set_here node.lines_in c.args.a c.index_mut.result.now c.read_line.new.line had;
    reads = c.read_line.ensures;
  }

pub invariant_of-self : goal.invariant_of-self
invariant_of-self g c = line_in_kept c.args.a (node g c) (next g c) (in_view g.P.Source c.args.place.now) (in_view g.P.Source c.read_line.new.place) c.self.invariant (is_on g c) (move g c) (set_count (node g c).lines_in c.args.a c.read_line.new.line) refl

pub returns-clause-moves : goal.returns-clause-moves
returns-clause-moves g c = subst (λ (n : NodeView). LineInMove c.args.a n (in_view g.P.Source c.args.place.now) (next g c) (in_view g.P.Source c.read_line.new.place)) c.self.view_is (move g c)

pub returns-clause-node : goal.returns-clause-node
returns-clause-node g c = invariant_of-self g c
