use Rattle.std.proofs.Common.{◌<◌, ◌≤◌, length, arith}
use Rattle.port_base.specs.Racks.{bays_view}
use Rattle.node_links.proofs.Emptied.{rest_next, rest_none}
use Rattle.node_links.proofs.retire.retire_all.Goals as goal

pub loop-link-preserved : goal.loop-link-preserved
loop-link-preserved g c =
    let less : c.loop-link.link-index < length c.args.links.now = (let test = c.loop-link-test.true in omega arith) in
    rest_next c.args.past c.loop-link.link-index c.args.links.now c.link-item.result (bays_view g.P.Source g.K.Sink c.args.bays.now) (bays_view g.P.Source g.K.Sink c.loop-link.bays)
    (bays_view g.P.Source g.K.Sink c.retire_link.new.bays) less c.link-item.is c.retire_link.ensures c.loop-link.invariant

pub returns : goal.returns
returns g c =
    let most : length c.args.links.now ≤ c.loop-link.link-index = (let test = c.loop-link-test.false in omega arith) in
    rest_none c.args.past c.loop-link.link-index c.args.links.now (bays_view g.P.Source g.K.Sink c.args.bays.now) (bays_view g.P.Source g.K.Sink c.loop-link.bays) most c.loop-link.invariant
