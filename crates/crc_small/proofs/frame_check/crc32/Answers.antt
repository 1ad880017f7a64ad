use Rattle.std.proofs.Common.{refl, ◌∙◌, ◌+◌, ◌≤◌, length, arith}
use Rattle.crc_small.proofs.Inverted.{IsWordAt, word_more, four_words_more, register-rest, register-all}
use Rattle.crc_small.proofs.Folding.{register_some}
use Rattle.crc_small.proofs.frame_check.crc32.Goals as goal

pub loop-at-init : goal.loop-at-init
loop-at-init c = (c.begin-register.ensures.within, c.begin-register.ensures.register ∙ register_some c.args.bytes.now c.begin-register.result.1 c.begin-register.ensures.within)

pub loop-at-preserved : goal.loop-at-preserved
loop-at-preserved c =
    let bytes = c.args.bytes.now in
    let at = c.loop-at.at in
    let within : at + 16 ≤ length bytes = omega arith in
    let w0 : IsWordAt bytes at c.word.result = record { first = c.word.ensures.first; second = c.word.ensures.second; third = c.word.ensures.third; fourth = c.word.ensures.fourth } in
    let w1 : IsWordAt bytes (at + 4) c.word-in-loop-at.result = record { first = c.word-in-loop-at.ensures.first; second = c.word-in-loop-at.ensures.second; third = c.word-in-loop-at.ensures.third; fourth = c.word-in-loop-at.ensures.fourth } in
    let w2 : IsWordAt bytes (at + 8) c.word-in-loop-at-2.result = record { first = c.word-in-loop-at-2.ensures.first; second = c.word-in-loop-at-2.ensures.second; third = c.word-in-loop-at-2.ensures.third; fourth = c.word-in-loop-at-2.ensures.fourth } in
    let w3 : IsWordAt bytes (at + 12) c.word-in-loop-at-3.result = record { first = c.word-in-loop-at-3.ensures.first; second = c.word-in-loop-at-3.ensures.second; third = c.word-in-loop-at-3.ensures.third; fourth = c.word-in-loop-at-3.ensures.fourth } in (
      within,
      c.four_words32-register.ensures
          ∙ four_words_more bytes at c.word.result c.word-in-loop-at.result c.word-in-loop-at-2.result c.word-in-loop-at-3.result c.loop-at.register within w0 w1 w2 w3 c.loop-at.invariant.1,
    )

pub loop-at-2-preserved : goal.loop-at-2-preserved
loop-at-2-preserved c =
    let bytes = c.args.bytes.now in
    let at = c.loop-at-2.at in
    let within : at + 4 ≤ length bytes = omega arith in
    let w0 : IsWordAt bytes at c.word-in-loop-at-2-2.result = record { first = c.word-in-loop-at-2-2.ensures.first; second = c.word-in-loop-at-2-2.ensures.second; third = c.word-in-loop-at-2-2.ensures.third; fourth = c.word-in-loop-at-2-2.ensures.fourth } in
    (within, c.word32-register.ensures ∙ word_more bytes at (at + 4) c.word-in-loop-at-2-2.result c.loop-at-2.register within refl w0 c.loop-at-2.invariant.1)

pub loop-byte-preserved : goal.loop-byte-preserved
loop-byte-preserved c =
    c.byte32-register.ensures
    ∙ register-rest c.args.bytes.now c.loop-at-2.at c.loop-byte.byte-index c.loop-byte.register c.loop-byte-test.true c.loop-byte.invariant

pub returns : goal.returns
returns c =
    register-all c.args.bytes.now c.loop-at-2.at c.loop-byte.byte-index c.loop-byte.register c.loop-at-2.invariant.0 c.loop-byte-test.false (omega arith) c.loop-byte.invariant
