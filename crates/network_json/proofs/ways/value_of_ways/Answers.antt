use Rattle.std.proofs.Common.{length, arith}
use Rattle.network_view.specs.Ways.{way_at}
use Rattle.network_view.proofs.Lists.{known_item}
use Rattle.network_json.specs.NetworkJson.{way_data}
use Rattle.network_json.proofs.Added.{values_more}
use Rattle.network_json.proofs.ways.value_of_ways.Goals as goal

pub loop-end-preserved : goal.loop-end-preserved
loop-end-preserved c =
    let all = c.args.legs.now in
    let i = c.loop-end.end-index in
    let x = c.end-item.result in
    values_more (way_data c.args.named.now) (way_at c.args.named.now.network (length all)) all i x c.loop-end.list.items c.add_way.new.list.items
    (known_item all i x (let less = c.loop-end-test.true in omega arith) c.end-item.is) c.loop-end.invariant c.in_ok-add_way.ensures
