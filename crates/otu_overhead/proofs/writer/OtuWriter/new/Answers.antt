use Rattle.otu_overhead.proofs.writer.OtuWriter.new.Goals as goal

pub returns : goal.returns
returns c = c.new.ensures 4080
