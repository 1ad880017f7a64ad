use Rattle.std.proofs.Common.{◌≡◌, ◌<◌, ◌≤◌, ℕ, List, length, subst, arith, rules}
use Rattle.otn_base.specs.declared.kind.PortName.TheVariants as port
use Rattle.node_links.specs.Links.{takes_part}
use Rattle.node_links.specs.Steps.LineFrames.{PutsOwn}
use Rattle.node_links.specs.Moves.{GaveFrame}
use Rattle.node_links.specs.declared.link.Link.{Link}
use Rattle.node_links.proofs.LinkSteps.{step_more, one_gone, all_gone_back, as_it_was}
use Rattle.node_links.proofs.lines_out.fill_links.Goals as goal

pub loop-link-preserved : goal.loop-link-preserved
loop-link-preserved g c =
    let olds = c.args.links.now.items in
    let news = c.loop-link.link-items in
    let i = c.loop-link.link-index in
    let d = c.link-item.result in
    let Step = λ (link : Link) (before now : List ℕ). PutsOwn (takes_part c.args.past (port.LineOut c.args.b) link) link before now in
    let Goes = λ (n : ℕ) (link new : Link). GaveFrame (takes_part c.args.past (port.LineOut c.args.b) link) n link new in
    let count : length news ≡ length olds = (c.loop-link.invariant.gone 0).count in
    let less : i < length olds = (let test = c.loop-link-test.true in omega arith) in
    record {
      gone = λ n. one_gone (Goes n) i olds news d c.fill_frame.new.self less (c.loop-link.invariant.gone n) (c.fill_frame.ensures.gave n);
      rest = λ new steps.
          c.loop-link.invariant.rest new
          (step_more Step olds i d (g.F.FillFrame.bytes c.loop-link.frame) (g.F.FillFrame.bytes c.fill_frame.new.frame) new less
          (subst (λ link. Step link (g.F.FillFrame.bytes c.loop-link.frame) (g.F.FillFrame.bytes c.fill_frame.new.frame)) (as_it_was (Goes 0) i olds news d less (c.loop-link.invariant.gone 0)) c.fill_frame.ensures.puts) steps);
    }

pub returns-clause-gave : goal.returns-clause-gave
returns-clause-gave g c =
    let olds = c.args.links.now.items in
    let news = c.loop-link.link-items in
    let i = c.loop-link.link-index in
    let Goes = λ (n : ℕ) (link new : Link). GaveFrame (takes_part c.args.past (port.LineOut c.args.b) link) n link new in
    let count : length news ≡ length olds = (c.loop-link.invariant.gone 0).count in
    let most : length olds ≤ i = (let test = c.loop-link-test.false in omega arith) in
    λ n. all_gone_back (Goes n) i c.args.links.now.len olds news (search rules) most (c.loop-link.invariant.gone n)
