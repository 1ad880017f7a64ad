use Rattle.std.proofs.Common.{refl}
use Rattle.otn_base.specs.TrailTrace.{zeros}
use Rattle.otn_base.proofs.Zeros.{get_or-zeros}
use Rattle.otu_overhead.proofs.Bytes.{section_is, section_parity}
use Rattle.otu_overhead.proofs.writer.put_section.Goals as goal

pub returns-clause-section : goal.returns-clause-section
unfolding zeros
returns-clause-section c =
    section_is c.args.mfas c.args.tti c.args.bip (zeros 256) c.args.frame.now c.put_run.new.frame c.put_run-2.new.frame c.put_run-3.new.frame c.put_run-4.new.frame
    c.put_run-5.new.frame refl (get_or-zeros 256) c.put_run.ensures.put c.put_run-2.ensures.put c.put_run-3.ensures.put c.put_run-4.ensures.put c.put_run-5.ensures.put

pub returns-clause-parity : goal.returns-clause-parity
returns-clause-parity c =
    section_parity c.args.mfas c.args.tti c.args.bip c.args.frame.now c.put_run-5.new.frame c.put_run.ensures.size (returns-clause-section c)
