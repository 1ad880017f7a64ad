use Rattle.std.proofs.Common.{◌≡◌, ◌<◌, true, Some, set, length, slice_get, refl, sym, ap, subst, arith}
use Rattle.std.proofs.lemmas.Option.{slice_get_read}
use Rattle.otn_base.specs.declared.kind.PortName.TheVariants as port
use Rattle.port_base.specs.OutPlace.{out_view}
use Rattle.node_links.specs.LineFrames.{FrameWritten}
use Rattle.node_moments.specs.Steps.NodeMoves.{LineOutMove}
use Rattle.node_moments.specs.NodeView.{NodeView, is_ready, done_at}
use Rattle.turn_pieces.specs.Pieces.{is_open}
use Rattle.node_moments.proofs.Later.{ready_open}
use Rattle.node_moments.proofs.Parts.{ready}
use Rattle.turn_pieces.proofs.PortNumbers.{line_out_index}
use Rattle.node_moments.proofs.StepsKept.{set_here, set_there, set_count, frames_left, line_out_kept}
use Rattle.node_core.proofs.node.Node.step_line_out.Given.{Over}
use Rattle.node_core.proofs.node.Node.step_line_out.Goals as goal

pub count-requires : goal.count-requires
count-requires g c = subst (λ (n : NodeView). is_open n.pieces (port.LineOut c.args.b) ≡ true) (sym c.self.view_is) (ready_open c.args.self.now (port.LineOut c.args.b) c.requires)

pub index_mut-requires : goal.index_mut-requires
index_mut-requires g c =
    let less = (line_out_index c.args.b (ready c.args.self.now (port.LineOut c.args.b) c.requires).within).0 in
    omega (arith, less, c.self.invariant.lines_out, c.self.inside.lines_out.ok)

pub write_line-requires : goal.write_line-requires
write_line-requires g c =
    let v = c.self.inside in
    let node : NodeView = record { turns = v.turns; past = v.past; pieces = v.pieces; lines_in = v.lines_in.items; lines_out = v.lines_out.items; links = v.links.items } in
    let is : is_ready node (port.LineOut c.args.b) ≡ true = subst (λ (n : NodeView). is_ready n (port.LineOut c.args.b) ≡ true) (sym c.self.view_is) c.requires in
    let less = (line_out_index c.args.b (ready node (port.LineOut c.args.b) is).within).0 in
    let within : c.args.b < length node.lines_out = omega (arith, less, c.self.invariant.lines_out) in
    let had : slice_get node.lines_out c.args.b ≡ Some c.index_mut.result.now = slice_get_read node.lines_out (length node.lines_out) c.args.b c.index_mut.result.now refl within c.index_mut.ensures.value in
    record { frame = rw c.done-n.ensures (frames_left c.args.b node c.index_mut.result.now c.self.invariant is had) }

module _ (g : Over) (c : goal.After-self-1 g) where
  abbrev node : NodeView
  node = let v = c.self.inside in record { turns = v.turns; past = v.past; pieces = v.pieces; lines_in = v.lines_in.items; lines_out = v.lines_out.items; links = v.links.items }

  abbrev next : NodeView
  next = let v = c.self.inside in record { turns = v.turns; past = v.past; pieces = c.count.new.self; lines_in = v.lines_in.items; lines_out = set v.lines_out.items c.args.b c.write_line.new.line; links = c.write_line.new.links.items }

  is_on : is_ready node (port.LineOut c.args.b) ≡ true
  is_on = subst (λ (n : NodeView). is_ready n (port.LineOut c.args.b) ≡ true) (sym c.self.view_is) c.requires

  had : slice_get node.lines_out c.args.b ≡ Some c.index_mut.result.now
  had =
      let less = (line_out_index c.args.b (ready node (port.LineOut c.args.b) is_on).within).0 in
      let within : c.args.b < length node.lines_out = omega (arith, less, c.self.invariant.lines_out) in
      slice_get_read node.lines_out (length node.lines_out) c.args.b c.index_mut.result.now refl within c.index_mut.ensures.value

  frame : FrameWritten c.self.inside.past c.args.b (done_at node (port.LineOut c.args.b)) c.index_mut.result.now (out_view g.K.Sink c.args.place.now) node.links c.write_line.new.line (out_view g.K.Sink c.write_line.new.place) next.links
  frame = rw c.done-n.ensures at c.write_line.ensures

  move : LineOutMove c.args.b node (out_view g.K.Sink c.args.place.now) next (out_view g.K.Sink c.write_line.new.place)
  move = record {
    piece = record { turns = refl; past = refl; counted = c.count.ensures; lines_in = λ a differ. refl; lines_out = λ m differ. set_there node.lines_out c.args.b m c.write_line.new.line (λ e. differ (ap port.LineOut e)) };
    line = c.index_mut.result.now;
    next = c.write_line.new.line;
    had = had;
    has = set_here node.lines_out c.args.b c.index_mut.result.now c.write_line.new.line had;
    writes = frame.writes;
    frame = frame.due;
  }

pub invariant_of-self : goal.invariant_of-self
invariant_of-self g c = line_out_kept c.args.b (node g c) (next g c) (out_view g.K.Sink c.args.place.now) (out_view g.K.Sink c.write_line.new.place) c.self.invariant (is_on g c) (move g c) refl (set_count (node g c).lines_out c.args.b c.write_line.new.line)

pub returns-clause-moves : goal.returns-clause-moves
returns-clause-moves g c = subst (λ (n : NodeView). LineOutMove c.args.b n (out_view g.K.Sink c.args.place.now) (next g c) (out_view g.K.Sink c.write_line.new.place)) c.self.view_is (move g c)

pub returns-clause-node : goal.returns-clause-node
returns-clause-node g c = invariant_of-self g c
