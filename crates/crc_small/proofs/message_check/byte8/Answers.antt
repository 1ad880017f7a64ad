use Rattle.std.proofs.Common.{◌≡◌, refl, arith}
use Rattle.std.specs.Prelude.{bit_xor}
use Rattle.crc_small.proofs.Linear.{zeros}
use Rattle.crc_small.proofs.Register.{zeros_next, shifted_8}
use Rattle.crc_small.proofs.message_check.byte8.Goals as goal

pub loop-init : goal.loop-init
unfolding zeros
loop-init c = refl

pub loop-preserved : goal.loop-preserved
loop-preserved c = let next = zeros_next 8 0x10D c.loop.counter (bit_xor c.args.register c.args.byte) in cc

pub returns : goal.returns
returns c =
    let all : c.loop.counter ≡ 8 = omega arith in
    let done = shifted_8 c.args.register c.args.byte (omega arith) (omega arith) in
    cc
