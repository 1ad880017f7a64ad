use Rattle.std.proofs.Common.{◌≡◌, ◌+◌, ◌*◌, get_or, ap, ◌∙◌, arith}
use Rattle.lane_kernels.proofs.from_slots.join8_among.Goals as goal

pub returns-clause-joined : goal.returns-clause-joined
returns-clause-joined c = λ k j lk lj.
    ap (λ n. get_or c.together.new.into n 0) (let e : 8 * j + k ≡ 0 + 8 * j + k = omega arith in e)
    ∙ c.together.ensures.here k j lk lj
    ∙ ap (λ n. get_or c.args.lists.now n 0) (let e : c.args.at + c.args.wide * k + j ≡ c.args.wide * k + c.args.at + j = omega arith in e)
