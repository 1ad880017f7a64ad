use Rattle.std.proofs.Common.{◌≡◌, ◌/◌, ◌^◌, ◌<◌, length, get_or, refl, ap, sym, ◌∙◌, arith}
use Rattle.std.specs.Prelude.{bit_xor}
use Rattle.std.proofs.lemmas.Nat.{xor_of_8}
use Rattle.gfp_scrambler.specs.Register.{shifted}
use Rattle.gfp_scrambler.proofs.Steps.{sent_more, sent_all, last_more, last_bits-none}
use Rattle.gfp_scrambler.proofs.scrambler.scramble_bytes.Goals as goal

pub loop-byte-init : goal.loop-byte-init
loop-byte-init c = record { done = refl; register = sym (last_bits-none c.args.register); small = c.requires }

pub loop-byte-preserved : goal.loop-byte-preserved
loop-byte-preserved c =
    let s = c.loop-byte.bytes in
    let k = c.loop-byte.byte-index in
    let r = c.loop-byte.last in
    let within : k < length s = omega arith in
    let v = bit_xor (get_or s k 0) (r / 2 ^ 35) in
    let small : v < 256 = xor_of_8 (get_or s k 0) (r / 2 ^ 35) (omega arith) (let below = c.loop-byte.invariant.small in omega arith) in
    record {
      done = sent_more s k r within ∙ c.loop-byte.invariant.done;
      register = ap (λ x. shifted x v) c.loop-byte.invariant.register ∙ sym (last_more s k c.args.register v within);
      small = omega arith;
    }

pub returns-clause-bytes : goal.returns-clause-bytes
returns-clause-bytes c =
    let all : c.loop-byte.byte-index ≡ length c.loop-byte.bytes = omega arith in
    sym (sent_all c.loop-byte.bytes c.loop-byte.byte-index c.loop-byte.last all) ∙ c.loop-byte.invariant.done
