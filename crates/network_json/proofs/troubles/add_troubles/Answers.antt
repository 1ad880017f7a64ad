use Rattle.std.proofs.Common.{length, arith}
use Rattle.std.specs.Prelude.{map}
use Rattle.serde_json.specs.View.{view}
use Rattle.network_view.proofs.Lists.{known_item}
use Rattle.network_json.specs.NetworkJson.{trouble_at}
use Rattle.network_json.proofs.Added.{after_more}
use Rattle.network_json.proofs.troubles.add_troubles.Goals as goal

pub loop-leg-preserved : goal.loop-leg-preserved
loop-leg-preserved c =
    let all = c.args.legs.now in
    let i = c.loop-leg.leg-index in
    let x = c.leg-item.result in
    after_more (trouble_at c.args.named.now (length all) c.args.trouble) all i x (map view c.args.list.now.items) (map view c.loop-leg.list.items)
    (map view c.add_trouble.new.list.items) (known_item all i x (let less = c.loop-leg-test.true in omega arith) c.leg-item.is) c.loop-leg.invariant
    c.in_ok-add_trouble.ensures
