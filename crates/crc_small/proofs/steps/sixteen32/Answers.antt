use Rattle.std.proofs.Common.{ℕ}
use Rattle.crc_small.specs.Steps.Shifted.{after_word}
use Rattle.crc_small.specs.Steps.Folding.{after_some}
use Rattle.crc_small.proofs.steps.sixteen32.Goals as goal

abbrev after : ℕ → ℕ → ℕ
after = after_word 31 0x104C11DB7

pub returns : goal.returns
unfolding after_some after_word
returns c =
    let e0 = c.word.ensures.first in
    let e1 = c.word.ensures.second in
    let e2 = c.word.ensures.third in
    let e3 = c.word.ensures.fourth in
    let e4 = c.word-2.ensures.first in
    let e5 = c.word-2.ensures.second in
    let e6 = c.word-2.ensures.third in
    let e7 = c.word-2.ensures.fourth in
    let e8 = c.word-3.ensures.first in
    let e9 = c.word-3.ensures.second in
    let e10 = c.word-3.ensures.third in
    let e11 = c.word-3.ensures.fourth in
    let e12 = c.word-4.ensures.first in
    let e13 = c.word-4.ensures.second in
    let e14 = c.word-4.ensures.third in
    let e15 = c.word-4.ensures.fourth in
    let e = c.four_words32.ensures in
    cc
