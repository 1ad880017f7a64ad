use Rattle.std.proofs.Common.{append_assoc}
use Rattle.unbundle_command.specs.Unbundled.{channel_text}
use Rattle.unbundle_command.proofs.report.put_line.Goals as goal

pub returns-clause-text : goal.returns-clause-text
unfolding channel_text
returns-clause-text c = rw (c.push_str.ensures.bytes, c.put_number-3.ensures.text, c.put_number-2.ensures.text, c.put_number.ensures.text) (simp append_assoc)
