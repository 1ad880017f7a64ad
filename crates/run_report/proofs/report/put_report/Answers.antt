use Rattle.device_model.specs.Report.{report_text}
use Rattle.run_report.proofs.RunReports.{seven_parts}
use Rattle.run_report.proofs.report.put_report.Goals as goal

pub returns-clause-text : goal.returns-clause-text
unfolding report_text
returns-clause-text g c =
    seven_parts _ _ _ _ _ _ _ c.requires.empty c.put_turns.ensures.text c.put_ports.ensures.text c.put_ports-2.ensures.text c.put_ports-3.ensures.text c.put_ports-4.ensures.text
    c.put_connections.ensures.text c.put_status.ensures.text
