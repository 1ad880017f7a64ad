use Rattle.std.proofs.Common.{append_assoc}
use Rattle.line_view.specs.ViewText.{msi_line}
use Rattle.line_view.proofs.lines.put_msi.Goals as goal

pub returns : goal.returns
unfolding msi_line
returns c = rw (c.push_str-2.ensures.bytes, c.put_hex.ensures.text, c.push_str.ensures.bytes, c.put_number.ensures.text) (simp append_assoc)
