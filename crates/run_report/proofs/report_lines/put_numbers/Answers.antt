use Rattle.std.proofs.Common.{append_assoc}
use Rattle.device_model.specs.Report.{client_in_line, client_out_line, line_in_line, line_out_line}
use Rattle.run_report.proofs.report_lines.put_numbers.Goals as goal

pub returns-in-LinesIn-clause-text : goal.returns-in-LinesIn-clause-text
unfolding line_in_line
returns-in-LinesIn-clause-text c = λ state.
    rw (c.in-LinesIn.is, c.put_number-in-LinesIn-7.ensures.text, c.put_number-in-LinesIn-6.ensures.text, c.put_number-in-LinesIn-5.ensures.text, c.put_number-in-LinesIn-4.ensures.text, c.put_number-in-LinesIn-3.ensures.text, c.put_number-in-LinesIn-2.ensures.text, c.put_number-in-LinesIn.ensures.text, c.put_number.ensures.text) (simp append_assoc)

pub returns-in-LinesOut-clause-text : goal.returns-in-LinesOut-clause-text
unfolding line_out_line
returns-in-LinesOut-clause-text c = λ state.
    rw (c.in-LinesOut.is, c.put_number-in-LinesOut-2.ensures.text, c.put_number-in-LinesOut.ensures.text) (simp append_assoc)

pub returns-in-ClientsIn-clause-text : goal.returns-in-ClientsIn-clause-text
unfolding client_in_line
returns-in-ClientsIn-clause-text c = λ state.
    rw (c.in-ClientsIn.is, c.put_client_word.ensures.text, c.push_str.ensures.bytes, c.put_number-in-ClientsIn-2.ensures.text, c.put_number-in-ClientsIn.ensures.text) (simp append_assoc)

pub returns-in-ClientsOut-clause-text : goal.returns-in-ClientsOut-clause-text
unfolding client_out_line
returns-in-ClientsOut-clause-text c = λ state.
    rw (c.in-ClientsOut.is, c.put_number-in-ClientsOut-3.ensures.text, c.put_number-in-ClientsOut-2.ensures.text, c.put_number-in-ClientsOut.ensures.text) (simp append_assoc)
