use Rattle.std.proofs.Common.{refl, ◌∙◌}
use Rattle.otn_base.specs.TrailTrace.{zeros}
use Rattle.otn_base.proofs.Zeros.{get_or-zeros}
use Rattle.odu_path.proofs.Bytes.{path_is, path_parity}
use Rattle.odu_path.proofs.writer.put_path.Goals as goal

pub returns-clause-path : goal.returns-clause-path
unfolding zeros
returns-clause-path g c =
    path_is g.row.COLS c.args.tti c.args.bip (zeros 14) c.args.frame.now c.put_overhead.new.frame c.put_overhead-2.new.frame c.put_overhead-3.new.frame refl (get_or-zeros 14)
    c.put_overhead.ensures.put c.put_overhead-2.ensures.put c.put_overhead-3.ensures.put

pub returns-clause-size : goal.returns-clause-size
returns-clause-size g c = (returns-clause-path g c).size ∙ c.put_overhead.ensures.size

pub returns-clause-parity : goal.returns-clause-parity
returns-clause-parity g c =
    path_parity g.row.COLS c.args.tti c.args.bip c.args.frame.now c.put_overhead-3.new.frame c.put_overhead.ensures.width c.put_overhead.ensures.size (returns-clause-path g c)
