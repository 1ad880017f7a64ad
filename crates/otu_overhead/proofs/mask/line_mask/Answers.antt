use Rattle.std.proofs.Common.{◌≡◌, length, arith}
use Rattle.otu_overhead.proofs.Masks.{mask_parts}
use Rattle.otu_overhead.proofs.mask.line_mask.Goals as goal

pub returns : goal.returns
returns c =
    let size : length c.put_mask.new.into ≡ 16320 = omega arith in
    mask_parts c.put_mask.new.into size c.put_mask.ensures.fas c.put_mask.ensures.behind
