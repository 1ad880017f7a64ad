use Rattle.std.proofs.Common.{ap, arith, ◌≡◌, ◌+◌, ◌*◌, ◌∙◌}
use Rattle.gmp_rule.specs.DataRule.{IsData, data_count}
use Rattle.trib_source.proofs.Counts.{data_next}
use Rattle.trib_source.proofs.lay.lay_next.Goals as goal

pub returns-clause-from : goal.returns-clause-from
returns-clause-from c =
    let n = c.args.runner.now.cm in
    let asked = c.args.runner.now.asked in
    let d : IsData n (asked + 1) = c.next.ensures.answer.0 c.if-not-next.false in
    let more : c.args.m * data_count n (asked + 1) ≡ c.args.m * data_count n asked + c.args.m = ap (λ k. c.args.m * k) (data_next n asked d) ∙ omega arith in
    omega arith
