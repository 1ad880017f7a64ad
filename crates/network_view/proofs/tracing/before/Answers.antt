use Rattle.std.proofs.Common.{◌≡◌, ◌∙◌, Some, None, sym, arith, rules}
use Rattle.network_ways.specs.Tracing.{by_fibre}
use Rattle.network_view.proofs.Lists.{known_item}
use Rattle.network_view.proofs.Ways.{before_go, before_stop}
use Rattle.network_view.proofs.tracing.before.Goals as goal

pub returns-in-Some : goal.returns-in-Some
returns-in-Some c =
    let network = c.args.named.now.network in
    let next = c.args.next.now in
    let all = c.fibres-fibres.result.now in
    let i = c.loop-f.f-index in
    let f = c.f-item.result in
    let some : by_fibre network next f ≡ Some c.in-Some.here = search rules in
    sym (c.loop-f.invariant ∙ before_stop network next c.in-Some.here all i f
    (known_item all i f (let less = c.loop-f-test.true in omega arith) c.f-item.is) some)

pub loop-f-preserved : goal.loop-f-preserved
loop-f-preserved c =
    let network = c.args.named.now.network in
    let next = c.args.next.now in
    let all = c.fibres-fibres.result.now in
    let i = c.loop-f.f-index in
    let f = c.f-item.result in
    let none : by_fibre network next f ≡ None = search rules in
    c.loop-f.invariant ∙ before_go network next all i f (known_item all i f (let less = c.loop-f-test.true in omega arith) c.f-item.is) none
