use Rattle.std.proofs.Common.{◌≡◌, ◌+◌, ◌*◌, get_or, ap, ◌∙◌, arith}
use Rattle.lane_kernels.proofs.into_slots.split_eight.Goals as goal

pub returns : goal.returns
returns c = λ k j lk lj.
    ap (λ n. get_or c.split8_among.new.into n 0) (let e : 476 * k + j ≡ 476 * k + 0 + j = omega arith in e)
    ∙ c.split8_among.ensures.here k j lk lj
