use Rattle.std.proofs.Common.{◌≡◌, ◌∙◌, Bool, true, false, sym, arith}
use Rattle.plan_file.specs.declared.connection.Connection.{Connection}
use Rattle.network_ways.specs.Tracing.{goes_on}
use Rattle.network_view.proofs.Lists.{known_item}
use Rattle.network_view.proofs.Ways.{first_go, first_stop}
use Rattle.network_view.proofs.tracing.first_entry.Goals as goal

pub returns-then-goes_on : goal.returns-then-goes_on
returns-then-goes_on c =
    let all = c.args.entries.now in
    let i = c.loop-x.x-index in
    let x = c.x-item.result in
    let test : Connection → Bool = λ y. goes_on y c.args.y.now c.args.out c.args.into in
    let holds : test x ≡ true = sym c.goes_on.ensures ∙ c.if-goes_on.true in
    sym (c.loop-x.invariant ∙ first_stop test all i x (known_item all i x (let less = c.loop-x-test.true in omega arith) c.x-item.is) holds)

pub loop-x-preserved : goal.loop-x-preserved
loop-x-preserved c =
    let all = c.args.entries.now in
    let i = c.loop-x.x-index in
    let x = c.x-item.result in
    let test : Connection → Bool = λ y. goes_on y c.args.y.now c.args.out c.args.into in
    let fails : test x ≡ false = sym c.goes_on.ensures ∙ c.if-goes_on.false in
    c.loop-x.invariant ∙ first_go test all i x (known_item all i x (let less = c.loop-x-test.true in omega arith) c.x-item.is) fails
