use Rattle.std.proofs.Common.{append_assoc}
use Rattle.line_view.specs.ViewText.{told_text}
use Rattle.line_view.proofs.lines.put_rest.Goals as goal

pub returns : goal.returns
unfolding told_text
returns c = rw (c.push_str-4.ensures.bytes, c.put_number.ensures.text, c.put_pair.ensures.text, c.push_str-3.ensures.bytes, c.word_of_state.ensures.word, c.push_str-2.ensures.bytes, c.put_slots.ensures.text, c.push_str.ensures.bytes) (simp append_assoc)
