use Rattle.std.proofs.Common.{◌∙◌, sym}
use Rattle.program_words.proofs.WordTexts.{word_text-good, word_text-bad}
use Rattle.program_words.proofs.given.text_of.Goals as goal

pub returns-in-Ok : goal.returns-in-Ok
returns-in-Ok c = c.in-Ok.ensures.cases.0 ∙ sym (word_text-good c.args.bytes.now c.in-Ok.ensures.cases.1)

pub returns-in-Err : goal.returns-in-Err
returns-in-Err c = sym (word_text-bad c.args.bytes.now c.in-Err.ensures.cases.0)
