use Rattle.std.proofs.Common.{◌%◌, ◌+◌, ◌-◌, ◌≡◌, length, take, drop, get_or, ap, ◌∙◌, arith}
use Rattle.crc_small.specs.declared.frame_check.TheConstants.{BEFORE_ZEROS}
use Rattle.crc_small.specs.Steps.Folding.{after_some}
use Rattle.crc_small.proofs.Leading.{led_by_zeros}
use Rattle.crc_small.proofs.frame_check.lead32.Goals as goal

pub returns-clause-register : goal.returns-clause-register
returns-clause-register c =
    let few = length c.args.bytes.now % 16 in
    let led = c.behind_zeros-led.result in
    let size : few + 16 - few ≡ 16 = omega arith in
    c.sixteen32-register.ensures
    ∙ ap (λ n. after_some (λ i. get_or (take n (drop few led)) i 0) 0 16 (get_or BEFORE_ZEROS few 0)) size
    ∙ led_by_zeros c.args.bytes.now led few (omega arith) c.behind_zeros-led.ensures.zeros c.behind_zeros-led.ensures.bytes
