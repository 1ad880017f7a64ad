use Rattle.std.proofs.Common.{append_assoc}
use Rattle.line_view.specs.ViewText.{tributary_line}
use Rattle.line_view.proofs.lines.put_told.Goals as goal

pub returns : goal.returns
unfolding tributary_line
returns c = rw (c.put_rest.ensures, c.put_number.ensures.text, c.push_str-2.ensures.bytes, c.push_str.ensures.bytes) (simp append_assoc)
