use Rattle.std.proofs.Common.{◌≡◌, ◌/◌, ◌^◌, ◌<◌, length, get_or, sym, ◌∙◌, arith}
use Rattle.std.specs.Prelude.{bit_xor}
use Rattle.gfp_scrambler.proofs.Steps.{plain_more, plain_all, last_rest, last_all}
use Rattle.gfp_scrambler.proofs.descrambler.descramble_bytes.Goals as goal

pub loop-byte-preserved : goal.loop-byte-preserved
loop-byte-preserved c =
    let s = c.loop-byte.bytes in
    let k = c.loop-byte.byte-index in
    let r = c.loop-byte.last in
    let within : k < length s = omega arith in
    record {
      done = plain_more s k r within ∙ c.loop-byte.invariant.done;
      register = last_rest s k r (bit_xor (get_or s k 0) (r / 2 ^ 35)) within ∙ c.loop-byte.invariant.register;
      small = omega arith;
    }

pub returns-clause-bytes : goal.returns-clause-bytes
returns-clause-bytes c =
    let all : c.loop-byte.byte-index ≡ length c.loop-byte.bytes = omega arith in
    sym (plain_all c.loop-byte.bytes c.loop-byte.byte-index c.loop-byte.last all) ∙ c.loop-byte.invariant.done

pub returns-clause-register : goal.returns-clause-register
returns-clause-register c =
    let all : c.loop-byte.byte-index ≡ length c.loop-byte.bytes = omega arith in
    sym (last_all c.loop-byte.bytes c.loop-byte.byte-index c.loop-byte.last all) ∙ c.loop-byte.invariant.register
