use Rattle.std.proofs.Common.{refl, arith}
use Rattle.std.specs.Prelude.{map}
use Rattle.serde_json.specs.View.{view}
use Rattle.network_view.proofs.Lists.{flat_more, known_item}
use Rattle.network_json.specs.NetworkJson.{fibre_at}
use Rattle.network_json.proofs.places.value_of_fibres.Goals as goal

pub loop-f-preserved : goal.loop-f-preserved
loop-f-preserved c =
    let all = c.fibres-fibres.result.now in
    let i = c.loop-f.f-index in
    let f = c.f-item.result in
    let at = fibre_at c.args.named.now in
    flat_more at all i f (map view c.loop-f.list.items) (at f) (map view c.add_fibre.new.list.items)
    (known_item all i f (let less = c.loop-f-test.true in omega arith) c.f-item.is) c.loop-f.invariant refl c.in_ok-add_fibre.ensures
