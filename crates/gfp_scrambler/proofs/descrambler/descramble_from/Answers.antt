use Rattle.std.proofs.Common.{◌+◌, ◌%◌, ◌^◌, ◌≤◌, length, refl, ap, ◌∙◌, arith}
use Rattle.std.specs.Int.{to_be_bytes, w64}
use Rattle.std.proofs.lemmas.List.{take_rest}
use Rattle.gfp_scrambler.specs.Register.{descrambled, last_bits}
use Rattle.gfp_scrambler.proofs.Runs.{Puts, puts, plain_eight, rest_came, plain_end}
use Rattle.gfp_scrambler.proofs.descrambler.descramble_from.Goals as goal

pub loop-bytes-init : goal.loop-bytes-init
loop-bytes-init c = record { within = omega arith; done = refl; register = refl; small = c.requires; came = λ k. omega (arith, c.type_inv.bytes k) }

pub loop-bytes-preserved : goal.loop-bytes-preserved
loop-bytes-preserved c =
    let s = c.loop-bytes.bytes in
    let k = c.loop-bytes.at in
    let r = c.loop-bytes.last in
    let n = c.descramble_word.result in
    let plain = to_be_bytes w64 n in
    let within : k + 8 ≤ length s = omega arith in
    let put : Puts s k plain c.put_word.new.bytes = puts s k plain c.put_word.new.bytes within refl c.put_word.ensures in
    let last = c.descramble_word.ensures.register ∙ ap (last_bits r) c.word_at-got.ensures in
    record {
      within = (let e = put.size in omega arith);
      done =
          plain_eight s k r (c.word_at-got.result % 2 ^ 43) plain c.put_word.new.bytes put (c.descramble_word.ensures.bytes ∙ ap (descrambled r) c.word_at-got.ensures) last
          ∙ c.loop-bytes.invariant.done;
      register = rest_came s k r (c.word_at-got.result % 2 ^ 43) plain c.put_word.new.bytes put last ∙ c.loop-bytes.invariant.register;
      small = omega arith;
      came = c.loop-bytes.invariant.came;
    }

pub returns-clause-bytes : goal.returns-clause-bytes
returns-clause-bytes c =
    plain_end c.loop-bytes.bytes c.loop-bytes.at c.loop-bytes.last c.descramble_bytes.new.bytes c.loop-bytes.invariant.within c.descramble_bytes.ensures.bytes
    ∙ c.loop-bytes.invariant.done

pub returns-clause-register : goal.returns-clause-register
returns-clause-register c =
    c.descramble_bytes.ensures.register ∙ ap (last_bits c.loop-bytes.last) (take_rest c.loop-bytes.bytes c.loop-bytes.at) ∙ c.loop-bytes.invariant.register
