use Rattle.std.proofs.Common.{◌≡◌, refl, arith}
use Rattle.std.specs.Prelude.{bit_xor}
use Rattle.std.proofs.lemmas.Nat.{xor_lt}
use Rattle.crc_small.proofs.Linear.{zeros}
use Rattle.crc_small.proofs.Register.{zeros_next, shifted_5}
use Rattle.crc_small.proofs.message_check.five5.Goals as goal

pub loop-init : goal.loop-init
unfolding zeros
loop-init c = (refl, xor_lt 5 c.args.register c.args.bits (omega arith) (omega arith))

pub loop-preserved : goal.loop-preserved
loop-preserved c = (let next = zeros_next 5 0x23 c.loop.counter (bit_xor c.args.register c.args.bits) in (cc), c.shift5-shifted.ensures.small)

pub returns-clause-value : goal.returns-clause-value
returns-clause-value c =
    let all : c.loop.counter ≡ 5 = omega arith in
    let done = shifted_5 c.args.register c.args.bits (omega arith) (omega arith) in
    cc
