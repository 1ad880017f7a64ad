use Rattle.std.proofs.Common.{ap, sym}
use Rattle.otn_base.specs.Counts.{saturated}
use Rattle.otu_overhead.proofs.More.{none_wrong}
use Rattle.otu_overhead.proofs.check.OtuCheck.new.Goals as goal

pub returns : goal.returns
returns c = record { fas = sym (ap saturated none_wrong); sm = c.new.ensures 4080 1 9 }
