use Rattle.std.proofs.Common.{◌-◌, ◌%◌, ◌^◌, length, ap, ◌∙◌, arith}
use Rattle.std.specs.Int.{to_be_bytes, w64}
use Rattle.gfp_scrambler.specs.Register.{descrambled}
use Rattle.gfp_scrambler.proofs.LastWord.{before_last, after_last, plain_by_end}
use Rattle.gfp_scrambler.proofs.descrambler.descramble_last.Goals as goal

pub returns-clause-bytes : goal.returns-clause-bytes
returns-clause-bytes c = λ register small front.
    let got = c.args.got.now in
    let n = length got - 8 in
    let before = before_last got register c.word_at-before.result small (omega arith) (λ k. omega (arith, c.type_inv.got k)) c.requires.two c.word_at-before.ensures in
    plain_by_end got c.args.plain.now (to_be_bytes w64 c.descramble_word.result) c.put_word.new.bytes register (c.word_at-before.result % 2 ^ 43) n
    (omega arith) (let e = c.requires.size in omega arith) front before
    (c.descramble_word.ensures.bytes ∙ ap (descrambled (c.word_at-before.result % 2 ^ 43)) c.word_at-word.ensures) c.put_word.ensures

pub returns-clause-register : goal.returns-clause-register
returns-clause-register c = λ register small.
    after_last c.args.got.now register c.word_at-word.result small (omega arith) (λ k. omega (arith, c.type_inv.got k)) c.requires.two c.word_at-word.ensures
