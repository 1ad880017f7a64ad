use Rattle.std.proofs.Common.{◌≡◌, ◌∙◌, ap, sym, arith, ◌*◌, ◌-◌, ◌%◌, ◌^◌}
use Rattle.std.specs.Prelude.{bit_xor}
use Rattle.crc_small.proofs.Register.{shift_over}
use Rattle.crc_small.proofs.message_check.shift5.Goals as goal

pub returns-then-register-ge16-clause-value : goal.returns-then-register-ge16-clause-value
returns-then-register-ge16-clause-value c =
    let less : c.args.register * 2 - 32 ≡ c.args.register * 2 % 2 ^ 5 = omega arith in
    ap (λ y. bit_xor y 3) less ∙ sym (shift_over 5 3 c.args.register (omega arith) (omega arith) (omega arith))
