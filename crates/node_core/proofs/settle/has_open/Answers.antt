use Rattle.std.proofs.Common.{arith}
use Rattle.node_core.proofs.Asked.{none_open, some_open, next_open}
use Rattle.node_core.proofs.settle.has_open.Goals as goal

pub loop-link-preserved : goal.loop-link-preserved
loop-link-preserved c = next_open c.args.links.now c.loop-link.link-index c.link-item.result c.is_open.result (let test = c.loop-link-test.true in omega arith) c.link-item.is c.if-is_open.false c.is_open.ensures c.loop-link.invariant

pub returns-then-is_open : goal.returns-then-is_open
returns-then-is_open c = some_open c.args.links.now c.loop-link.link-index c.link-item.result c.is_open.result (let test = c.loop-link-test.true in omega arith) c.link-item.is c.if-is_open.true c.is_open.ensures

pub returns : goal.returns
returns c = none_open c.args.links.now c.loop-link.link-index (let test = c.loop-link-test.false in omega arith) c.loop-link.invariant
