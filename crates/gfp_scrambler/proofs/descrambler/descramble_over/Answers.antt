use Rattle.std.proofs.Common.{◌+◌, ◌-◌, ◌%◌, ◌^◌, ◌≤◌, length, refl, ap, ◌∙◌, arith}
use Rattle.std.specs.Int.{to_be_bytes, w64}
use Rattle.gfp_scrambler.specs.Register.{descrambled, last_bits}
use Rattle.gfp_scrambler.proofs.Runs.{Puts, puts, plain_over, came_on}
use Rattle.gfp_scrambler.proofs.LastWord.{plain_front}
use Rattle.gfp_scrambler.proofs.descrambler.descramble_over.Goals as goal

pub loop-at-init : goal.loop-at-init
loop-at-init c = record { within = omega arith; size = c.requires.size; done = refl; register = refl; small = c.requires.small; came = λ k. omega (arith, c.type_inv.got k) }

pub loop-at-preserved : goal.loop-at-preserved
loop-at-preserved c =
    let got = c.args.got.now in
    let s = c.loop-at.plain in
    let k = c.loop-at.at in
    let r = c.loop-at.last in
    let plain = to_be_bytes w64 c.descramble_word.result in
    let within : k + 8 ≤ length got = omega arith in
    let room : k + 8 ≤ length s = (let e = c.loop-at.invariant.size in omega arith) in
    let put : Puts s k plain c.put_word.new.bytes = puts s k plain c.put_word.new.bytes room refl c.put_word.ensures in
    let last = c.descramble_word.ensures.register ∙ ap (last_bits r) c.word_at-word.ensures in
    record {
      within = within;
      size = put.size ∙ c.loop-at.invariant.size;
      done =
          plain_over got s k r (c.word_at-word.result % 2 ^ 43) plain c.put_word.new.bytes put (c.descramble_word.ensures.bytes ∙ ap (descrambled r) c.word_at-word.ensures) last
          ∙ c.loop-at.invariant.done;
      register = came_on got k r (c.word_at-word.result % 2 ^ 43) last ∙ c.loop-at.invariant.register;
      small = omega arith;
      came = c.loop-at.invariant.came;
    }

pub returns-clause-bytes : goal.returns-clause-bytes
returns-clause-bytes c =
    let got = c.args.got.now in
    let n = length got - 8 in
    c.descramble_last.ensures.bytes c.args.register c.requires.small
    (plain_front got c.loop-at.plain c.args.register c.loop-at.last c.loop-at.at n (omega arith) (let e = c.loop-at.invariant.size in omega arith) (omega arith) c.loop-at.invariant.done)
