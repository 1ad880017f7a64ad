use Rattle.std.proofs.Common.{append_assoc}
use Rattle.line_view.specs.ViewText.{turn_line}
use Rattle.line_view.proofs.lines.put_turn.Goals as goal

pub returns-clause-text : goal.returns-clause-text
unfolding turn_line
returns-clause-text c = rw (c.push_str-3.ensures.bytes, c.put_number-6.ensures.text, c.put_number-5.ensures.text, c.put_number-4.ensures.text, c.put_number-3.ensures.text, c.put_number-2.ensures.text, c.push_str-2.ensures.bytes, c.word_of_align.ensures.word, c.push_str.ensures.bytes, c.put_number.ensures.text) (simp append_assoc)
