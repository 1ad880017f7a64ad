use Rattle.otu_overhead.proofs.Sequence.{one_on}
use Rattle.otu_overhead.proofs.mask.one_bit_on.Goals as goal

pub returns : goal.returns
returns c = λ i is. one_on i c.args.register c.bit.result c.bit-2.result c.bit-3.result c.bit-4.result is c.bit.ensures.value c.bit-2.ensures.value c.bit-3.ensures.value c.bit-4.ensures.value
