use Rattle.std.proofs.Common.{◌≡◌, ◌+◌, ◌*◌, get_or, ap, ◌∙◌, arith}
use Rattle.lane_kernels.proofs.from_slots.join_eight.Goals as goal

pub returns : goal.returns
returns c = λ k j lk lj.
    c.join8_among.ensures.joined k j lk lj
    ∙ ap (λ n. get_or c.args.lists.now n 0) (let e : 476 * k + 0 + j ≡ 476 * k + j = omega arith in e)
