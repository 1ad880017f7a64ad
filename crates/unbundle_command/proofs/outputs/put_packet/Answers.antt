use Rattle.std.proofs.Common.{arith}
use Rattle.std.proofs.lemmas.Option.{slice_get_read}
use Rattle.port_base.proofs.BaysLaws.{client_out_seen, client_out_set, only_client_out}
use Rattle.port_base.specs.OutPlace.{out_view}
use Rattle.port_base.specs.Racks.{bays_view, with_client_out}
use Rattle.unbundle_command.proofs.Holding.{packet_put, clients_one}
use Rattle.unbundle_command.proofs.outputs.put_packet.Goals as goal

pub returns-clause-stands : goal.returns-clause-stands
returns-clause-stands g c = λ first arrived h.
    let bays = c.args.bays.now in
    let last = with_client_out bays c.args.cid c.take.new.place in
    let value = c.client_out_mut.ensures.value in
    let items = c.args.channels.now.items in
    packet_put first (bays_view g.I.Source g.O.Sink bays) (bays_view g.I.Source g.O.Sink last) arrived c.args.cid c.args.packet.now items c.index_mut.result.now c.take.new.self
    (out_view g.O.Sink c.client_out_mut.result.now) (out_view g.O.Sink c.take.new.place) (slice_get_read items 16 c.args.cid c.index_mut.result.now (grind arith) c.requires.low c.index_mut.ensures.value)
    (only_client_out g.I.Source g.O.Sink bays c.args.cid c.take.new.place) (client_out_seen g.I.Source g.O.Sink bays c.args.cid c.client_out_mut.result.now value)
    (client_out_set g.I.Source g.O.Sink bays c.args.cid c.client_out_mut.result.now c.take.new.place value) c.take.ensures.lines c.take.ensures.packets c.take.ensures.losses h

pub returns-clause-alone : goal.returns-clause-alone
returns-clause-alone g c = clients_one c.args.cid _ _ (only_client_out g.I.Source g.O.Sink c.args.bays.now c.args.cid c.take.new.place)
