use Rattle.std.proofs.Common.{◌≡◌, ◌+◌, ◌*◌, get_or, ap, ◌∙◌, arith}
use Rattle.lane_kernels.proofs.Turns.{among_other}
use Rattle.lane_kernels.proofs.into_slots.split8_among.Goals as goal

pub returns-clause-here : goal.returns-clause-here
returns-clause-here c = λ k j lk lj.
    ap (λ n. get_or c.apart.new.into n 0) (let e : c.args.wide * k + c.args.at + j ≡ c.args.at + c.args.wide * k + j = omega arith in e)
    ∙ c.apart.ensures.here k j lk lj
    ∙ ap (λ n. get_or c.args.row.now n 0) (let e : 0 + 8 * j + k ≡ 8 * j + k = omega arith in e)

pub returns-clause-others : goal.returns-clause-others
returns-clause-others c = λ k j lk lj beside.
    c.apart.ensures.others (c.args.wide * k + j) (λ b lb. among_other c.args.wide c.args.at k j b lj c.requires.at beside)
