use Rattle.otn_base.specs.declared.kind.PortName.TheVariants as port
use Rattle.port_base.specs.InPlace.{in_view}
use Rattle.node_links.specs.Links.{is_on, joins, takes_part}
use Rattle.node_links.proofs.ClientPieces.{found_at, one_takes}
use Rattle.node_links.proofs.LinkLaws.{both_left, both_right}
use Rattle.node_links.proofs.clients.take_client.Goals as goal

pub take_client-requires : goal.take_client-requires
take_client-requires g c =
    let old = c.index_mut.result.now in
    let at = found_at (takes_part c.args.past (port.ClientIn c.args.n)) c.deref.result.now c.args.links.now.items c.first_at.result c.in-Some.i old c.deref.ensures.value c.in-Some.is c.first_at.ensures c.index_mut.ensures.value in
    record { on = both_left (is_on c.args.past old) (joins (port.ClientIn c.args.n) old) at.2; client = (c.args.n, both_right (is_on c.args.past old) (joins (port.ClientIn c.args.n) old) at.2) }

pub returns : goal.returns
returns g c =
    let old = c.index_mut.result.now in
    let at = found_at (takes_part c.args.past (port.ClientIn c.args.n)) c.deref.result.now c.args.links.now.items c.first_at.result c.in-Some.i old c.deref.ensures.value c.in-Some.is c.first_at.ensures c.index_mut.ensures.value in
    one_takes c.args.past c.args.n c.in-Some.i c.args.links.now.items old c.take_client.new.self (in_view g.P.Source c.args.place.now) (in_view g.P.Source c.take_client.new.place) at.0 at.1 c.take_client.ensures
