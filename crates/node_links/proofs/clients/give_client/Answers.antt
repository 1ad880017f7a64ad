use Rattle.otn_base.specs.declared.kind.PortName.TheVariants as port
use Rattle.port_base.specs.OutPlace.{out_view}
use Rattle.node_links.specs.Links.{is_on, joins, takes_part}
use Rattle.node_links.proofs.ClientPieces.{found_at, one_gives}
use Rattle.node_links.proofs.LinkLaws.{both_right}
use Rattle.node_links.proofs.clients.give_client.Goals as goal

pub give_client-requires : goal.give_client-requires
give_client-requires g c =
    let old = c.index_mut.result.now in
    let at = found_at (takes_part c.args.past (port.ClientOut c.args.n)) c.deref.result.now c.args.links.now.items c.first_at.result c.in-Some.i old c.deref.ensures.value c.in-Some.is c.first_at.ensures c.index_mut.ensures.value in
    record { client = (c.args.n, both_right (is_on c.args.past old) (joins (port.ClientOut c.args.n) old) at.2) }

pub returns : goal.returns
returns g c =
    let old = c.index_mut.result.now in
    let at = found_at (takes_part c.args.past (port.ClientOut c.args.n)) c.deref.result.now c.args.links.now.items c.first_at.result c.in-Some.i old c.deref.ensures.value c.in-Some.is c.first_at.ensures c.index_mut.ensures.value in
    one_gives c.args.past c.args.n c.in-Some.i c.args.links.now.items old c.give_client.new.self (out_view g.K.Sink c.args.place.now) (out_view g.K.Sink c.give_client.new.place) at.0 at.1 c.give_client.ensures
