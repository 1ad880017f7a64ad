use Rattle.std.proofs.Common.{◌-◌, arith}
use Rattle.gmp_rule.proofs.Runs.{reached}
use Rattle.gmp_rule.proofs.runner.Runner.data_run.Goals as goal

pub returns-clause-data : goal.returns-clause-data
returns-clause-data c = λ i below.
    let n = c.self.inside.cm in
    let asked = c.self.inside.asked in
    rw (← c.self.view_is) (reached n (15232 - n) asked c.self.inside.remainder c.run_within-run.result i (omega arith) (omega arith) c.run_within-run.ensures.inside below)
