use Rattle.std.proofs.Common.{◌≡◌, true}
use Rattle.otn_base.specs.declared.kind.PortName.TheVariants.{LineIn, LineOut, ClientIn, ClientOut}
use Rattle.port_base.specs.InPlace.{in_view}
use Rattle.port_base.specs.OutPlace.{out_view}
use Rattle.port_base.specs.Views.{line_in_at, line_out_at, client_in_at, client_out_at}
use Rattle.port_base.specs.Racks.{bays_view, with_line_in, with_line_out, with_client_in, with_client_out}
use Rattle.port_base.proofs.BaysLaws.{line_in_seen, line_in_set, only_line_in, line_out_seen, line_out_set, only_line_out, client_in_seen, client_in_set, only_client_in, client_out_seen, client_out_set, only_client_out}
use Rattle.port_base.proofs.PlacesLaws.{only_line_in_port, only_line_out_port, only_client_in_port, only_client_out_port}
use Rattle.node_moments.specs.NodeView.{is_ready}
use Rattle.node_moments.specs.Steps.NodeMoves.{LineInMove, LineOutMove, ClientInMove, ClientOutMove}
use Rattle.node_moments.proofs.LineInMoves.{line_in_moves}
use Rattle.node_moments.proofs.LineOutMoves.{line_out_moves}
use Rattle.node_moments.proofs.ClientMoves.{client_in_moves, client_out_moves}
use Rattle.node_core.proofs.Growing.{all_kept, one_grew}
use Rattle.node_core.proofs.node.Node.step.Goals as goal

pub returns-in-LineIn-clause-only : goal.returns-in-LineIn-clause-only
returns-in-LineIn-clause-only g c =
    let old = bays_view g.P.Source g.K.Sink c.args.bays.now in
    let new = bays_view g.P.Source g.K.Sink (with_line_in c.args.bays.now c.in-LineIn.a c.step_line_in.new.place) in
    rw c.in-LineIn.is (only_line_in_port c.in-LineIn.a old new (only_line_in g.P.Source g.K.Sink c.args.bays.now c.in-LineIn.a c.step_line_in.new.place))

pub returns-in-LineIn-clause-stands : goal.returns-in-LineIn-clause-stands
returns-in-LineIn-clause-stands g c = λ plan first read h.
    let n = c.in-LineIn.a in
    let old = bays_view g.P.Source g.K.Sink c.args.bays.now in
    let new = bays_view g.P.Source g.K.Sink (with_line_in c.args.bays.now n c.step_line_in.new.place) in
    let ready : is_ready c.args.self.now (LineIn n) ≡ true = rw c.in-LineIn.is at c.requires.ready in
    let was : line_in_at old n ≡ in_view g.P.Source c.line_in_mut.result.now = line_in_seen g.P.Source g.K.Sink c.args.bays.now n _ c.line_in_mut.ensures.value in
    let now : line_in_at new n ≡ in_view g.P.Source c.step_line_in.new.place = line_in_set g.P.Source g.K.Sink c.args.bays.now n _ c.step_line_in.new.place c.line_in_mut.ensures.value in
    let move : LineInMove n c.args.self.now (line_in_at old n) c.step_line_in.new.self (line_in_at new n) = rw (was, now) c.step_line_in.ensures.moves in
    line_in_moves plan first read n c.args.self.now c.step_line_in.new.self old new ready move (only_line_in_port n old new (only_line_in g.P.Source g.K.Sink c.args.bays.now n c.step_line_in.new.place)) h

pub returns-in-LineOut-clause-only : goal.returns-in-LineOut-clause-only
returns-in-LineOut-clause-only g c =
    let old = bays_view g.P.Source g.K.Sink c.args.bays.now in
    let new = bays_view g.P.Source g.K.Sink (with_line_out c.args.bays.now c.in-LineOut.b c.step_line_out.new.place) in
    rw c.in-LineOut.is (only_line_out_port c.in-LineOut.b old new (only_line_out g.P.Source g.K.Sink c.args.bays.now c.in-LineOut.b c.step_line_out.new.place))

pub returns-in-LineOut-clause-stands : goal.returns-in-LineOut-clause-stands
returns-in-LineOut-clause-stands g c = λ plan first read h.
    let n = c.in-LineOut.b in
    let old = bays_view g.P.Source g.K.Sink c.args.bays.now in
    let new = bays_view g.P.Source g.K.Sink (with_line_out c.args.bays.now n c.step_line_out.new.place) in
    let ready : is_ready c.args.self.now (LineOut n) ≡ true = rw c.in-LineOut.is at c.requires.ready in
    let was : line_out_at old n ≡ out_view g.K.Sink c.line_out_mut.result.now = line_out_seen g.P.Source g.K.Sink c.args.bays.now n _ c.line_out_mut.ensures.value in
    let now : line_out_at new n ≡ out_view g.K.Sink c.step_line_out.new.place = line_out_set g.P.Source g.K.Sink c.args.bays.now n _ c.step_line_out.new.place c.line_out_mut.ensures.value in
    let move : LineOutMove n c.args.self.now (line_out_at old n) c.step_line_out.new.self (line_out_at new n) = rw (was, now) c.step_line_out.ensures.moves in
    line_out_moves plan first read n c.args.self.now c.step_line_out.new.self old new ready move (only_line_out_port n old new (only_line_out g.P.Source g.K.Sink c.args.bays.now n c.step_line_out.new.place)) h

pub returns-in-ClientIn-clause-only : goal.returns-in-ClientIn-clause-only
returns-in-ClientIn-clause-only g c =
    let old = bays_view g.P.Source g.K.Sink c.args.bays.now in
    let new = bays_view g.P.Source g.K.Sink (with_client_in c.args.bays.now c.in-ClientIn.n c.step_client_in.new.place) in
    rw c.in-ClientIn.is (only_client_in_port c.in-ClientIn.n old new (only_client_in g.P.Source g.K.Sink c.args.bays.now c.in-ClientIn.n c.step_client_in.new.place))

pub returns-in-ClientIn-clause-stands : goal.returns-in-ClientIn-clause-stands
returns-in-ClientIn-clause-stands g c = λ plan first read h.
    let n = c.in-ClientIn.n in
    let old = bays_view g.P.Source g.K.Sink c.args.bays.now in
    let new = bays_view g.P.Source g.K.Sink (with_client_in c.args.bays.now n c.step_client_in.new.place) in
    let ready : is_ready c.args.self.now (ClientIn n) ≡ true = rw c.in-ClientIn.is at c.requires.ready in
    let was : client_in_at old n ≡ in_view g.P.Source c.client_in_mut.result.now = client_in_seen g.P.Source g.K.Sink c.args.bays.now n _ c.client_in_mut.ensures.value in
    let now : client_in_at new n ≡ in_view g.P.Source c.step_client_in.new.place = client_in_set g.P.Source g.K.Sink c.args.bays.now n _ c.step_client_in.new.place c.client_in_mut.ensures.value in
    let move : ClientInMove n c.args.self.now (client_in_at old n) c.step_client_in.new.self (client_in_at new n) = rw (was, now) c.step_client_in.ensures.moves in
    client_in_moves plan first read n c.args.self.now c.step_client_in.new.self old new ready move (only_client_in_port n old new (only_client_in g.P.Source g.K.Sink c.args.bays.now n c.step_client_in.new.place)) h

pub returns-in-ClientOut-clause-only : goal.returns-in-ClientOut-clause-only
returns-in-ClientOut-clause-only g c =
    let old = bays_view g.P.Source g.K.Sink c.args.bays.now in
    let new = bays_view g.P.Source g.K.Sink (with_client_out c.args.bays.now c.in-ClientOut.n c.step_client_out.new.place) in
    rw c.in-ClientOut.is (only_client_out_port c.in-ClientOut.n old new (only_client_out g.P.Source g.K.Sink c.args.bays.now c.in-ClientOut.n c.step_client_out.new.place))

pub returns-in-ClientOut-clause-stands : goal.returns-in-ClientOut-clause-stands
returns-in-ClientOut-clause-stands g c = λ plan first read h.
    let n = c.in-ClientOut.n in
    let old = bays_view g.P.Source g.K.Sink c.args.bays.now in
    let new = bays_view g.P.Source g.K.Sink (with_client_out c.args.bays.now n c.step_client_out.new.place) in
    let ready : is_ready c.args.self.now (ClientOut n) ≡ true = rw c.in-ClientOut.is at c.requires.ready in
    let was : client_out_at old n ≡ out_view g.K.Sink c.client_out_mut.result.now = client_out_seen g.P.Source g.K.Sink c.args.bays.now n _ c.client_out_mut.ensures.value in
    let now : client_out_at new n ≡ out_view g.K.Sink c.step_client_out.new.place = client_out_set g.P.Source g.K.Sink c.args.bays.now n _ c.step_client_out.new.place c.client_out_mut.ensures.value in
    let move : ClientOutMove n c.args.self.now (client_out_at old n) c.step_client_out.new.self (client_out_at new n) = rw (was, now) c.step_client_out.ensures.moves in
    client_out_moves plan first read n c.args.self.now c.step_client_out.new.self old new ready move (only_client_out_port n old new (only_client_out g.P.Source g.K.Sink c.args.bays.now n c.step_client_out.new.place)) h

pub returns-in-LineIn-clause-grows : goal.returns-in-LineIn-clause-grows
returns-in-LineIn-clause-grows g c =
    let n = c.in-LineIn.a in
    let old = bays_view g.P.Source g.K.Sink c.args.bays.now in
    let new = bays_view g.P.Source g.K.Sink (with_line_in c.args.bays.now n c.step_line_in.new.place) in
    all_kept (LineIn n) old new (only_line_in_port n old new (only_line_in g.P.Source g.K.Sink c.args.bays.now n c.step_line_in.new.place)) (λ b e. cc)

pub returns-in-LineOut-clause-grows : goal.returns-in-LineOut-clause-grows
returns-in-LineOut-clause-grows g c =
    let n = c.in-LineOut.b in
    let old = bays_view g.P.Source g.K.Sink c.args.bays.now in
    let new = bays_view g.P.Source g.K.Sink (with_line_out c.args.bays.now n c.step_line_out.new.place) in
    let was : line_out_at old n ≡ out_view g.K.Sink c.line_out_mut.result.now = line_out_seen g.P.Source g.K.Sink c.args.bays.now n _ c.line_out_mut.ensures.value in
    let now : line_out_at new n ≡ out_view g.K.Sink c.step_line_out.new.place = line_out_set g.P.Source g.K.Sink c.args.bays.now n _ c.step_line_out.new.place c.line_out_mut.ensures.value in
    let move : LineOutMove n c.args.self.now (line_out_at old n) c.step_line_out.new.self (line_out_at new n) = rw (was, now) c.step_line_out.ensures.moves in
    one_grew n old new move.writes.gained.0 (only_line_out_port n old new (only_line_out g.P.Source g.K.Sink c.args.bays.now n c.step_line_out.new.place)) move.writes.gained.1.sends.got

pub returns-in-ClientIn-clause-grows : goal.returns-in-ClientIn-clause-grows
returns-in-ClientIn-clause-grows g c =
    let n = c.in-ClientIn.n in
    let old = bays_view g.P.Source g.K.Sink c.args.bays.now in
    let new = bays_view g.P.Source g.K.Sink (with_client_in c.args.bays.now n c.step_client_in.new.place) in
    all_kept (ClientIn n) old new (only_client_in_port n old new (only_client_in g.P.Source g.K.Sink c.args.bays.now n c.step_client_in.new.place)) (λ b e. cc)

pub returns-in-ClientOut-clause-grows : goal.returns-in-ClientOut-clause-grows
returns-in-ClientOut-clause-grows g c =
    let n = c.in-ClientOut.n in
    let old = bays_view g.P.Source g.K.Sink c.args.bays.now in
    let new = bays_view g.P.Source g.K.Sink (with_client_out c.args.bays.now n c.step_client_out.new.place) in
    all_kept (ClientOut n) old new (only_client_out_port n old new (only_client_out g.P.Source g.K.Sink c.args.bays.now n c.step_client_out.new.place)) (λ b e. cc)
