use Rattle.std.proofs.Common.{◌≡◌, ◌<◌, ◌≤◌, length, arith, rules}
use Rattle.node_links.specs.Moves.{Fences}
use Rattle.node_links.specs.LinkEnds.{whole_for}
use Rattle.node_links.specs.declared.link.Link.{Link}
use Rattle.node_links.proofs.LinkSteps.{one_gone, all_gone_back}
use Rattle.node_links.proofs.turn.fence_all.Goals as goal

pub loop-link-preserved : goal.loop-link-preserved
loop-link-preserved c =
    let olds = c.args.links.now.items in
    let news = c.loop-link.link-items in
    let i = c.loop-link.link-index in
    let Goes = λ (link then : Link). Fences c.args.past (whole_for link.entry.from c.args.wholes.now) link then in
    let count : length news ≡ length olds = c.loop-link.invariant.count in
    let less : i < length olds = (let test = c.loop-link-test.true in omega arith) in
    one_gone Goes i olds news c.link-item.result c.fence.new.self less c.loop-link.invariant c.fence.ensures

pub returns : goal.returns
returns c =
    let olds = c.args.links.now.items in
    let news = c.loop-link.link-items in
    let i = c.loop-link.link-index in
    let Goes = λ (link then : Link). Fences c.args.past (whole_for link.entry.from c.args.wholes.now) link then in
    let count : length news ≡ length olds = c.loop-link.invariant.count in
    let most : length olds ≤ i = (let test = c.loop-link-test.false in omega arith) in
    all_gone_back Goes i c.args.links.now.len olds news (search rules) most c.loop-link.invariant
