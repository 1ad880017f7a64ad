use Rattle.std.proofs.Common.{◌≡◌, ◌<◌, ◌≤◌, length, arith, rules}
use Rattle.otn_base.specs.declared.kind.PortName.TheVariants as port
use Rattle.node_links.specs.Links.{takes_part}
use Rattle.node_links.specs.Moves.{TookFrame}
use Rattle.node_links.specs.declared.link.Link.{Link}
use Rattle.node_links.proofs.LinkSteps.{one_gone, all_gone_back}
use Rattle.node_links.proofs.lines_in.hand_each.Goals as goal

pub loop-link-preserved : goal.loop-link-preserved
loop-link-preserved g c =
    let olds = c.args.links.now.items in
    let news = c.loop-link.link-items in
    let i = c.loop-link.link-index in
    let Goes = λ (link then : Link). TookFrame (takes_part c.args.past (port.LineIn c.args.a) link) (record { frame = g.F.TakeFrame.bytes c.args.frame.now; expected = c.args.expected }) link then in
    let count : length news ≡ length olds = c.loop-link.invariant.count in
    let less : i < length olds = (let test = c.loop-link-test.true in omega arith) in
    one_gone Goes i olds news c.link-item.result c.take_frame.new.self less c.loop-link.invariant c.take_frame.ensures

pub returns : goal.returns
returns g c =
    let olds = c.args.links.now.items in
    let news = c.loop-link.link-items in
    let i = c.loop-link.link-index in
    let Goes = λ (link then : Link). TookFrame (takes_part c.args.past (port.LineIn c.args.a) link) (record { frame = g.F.TakeFrame.bytes c.args.frame.now; expected = c.args.expected }) link then in
    let count : length news ≡ length olds = c.loop-link.invariant.count in
    let most : length olds ≤ i = (let test = c.loop-link-test.false in omega arith) in
    all_gone_back Goes i c.args.links.now.len olds news (search rules) most c.loop-link.invariant
