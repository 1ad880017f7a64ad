use Rattle.std.proofs.Common.{append_assoc}
use Rattle.device_model.specs.Report.{connection_line}
use Rattle.run_report.proofs.report_lines.put_connection.Goals as goal

pub returns-clause-text : goal.returns-clause-text
unfolding connection_line
returns-clause-text c = rw (c.put_last.ensures.text, c.from_word.ensures.word, c.push_str-2.ensures.bytes, c.push_str.ensures.bytes) (simp append_assoc)
