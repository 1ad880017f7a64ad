use Rattle.std.proofs.Common.{◌≡◌, ◌++◌, ◌∙◌, length, ap, arith}
use Rattle.gfp_linear.specs.ChannelFrames.{IsCidList}
use Rattle.gfp_linear.proofs.Weaving.{few_cids, some_cids}
use Rattle.gfp_linear.proofs.maker.ChannelMaker.new.Goals as goal

pub invariant_of-result : goal.invariant_of-result
invariant_of-result c =
    let cids = c.args.cids.now in
    let are : IsCidList cids = c.are_cids.ensures.yes c.if-not-are_cids.false in
    let few = few_cids cids are (λ i. omega (arith, c.type_inv.cids i)) in
    let some = some_cids cids are in
    let count : length c.append.new.buffer.items ≡ length cids = ap length (c.append.ensures.items ∙ ap (λ y. y ++ cids) c.in_ok-list.ensures.items) in
    let size = c.append.new.buffer.ok.0 in
    let waits = c.in_ok-no_waits.ensures.len in
    (omega arith, omega arith, omega arith, omega arith, c.in_ok-with_capacity.ensures.capacity)
